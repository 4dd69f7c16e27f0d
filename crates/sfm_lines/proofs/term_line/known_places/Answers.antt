use Rattle.sfm_lines.specs.Lines.{texts_of}
use Rattle.sfm_lines.proofs.TermReasons.{known-old}
use Rattle.sfm_lines.proofs.term_line.known_places.Goals as goal

pub unreachable-requires : goal.unreachable-requires
unreachable-requires c = known-old c.args.instance.now.names (texts_of c.args.texts.now) c.requires
    (rw c.in_default.is at c.in_ok-places.ensures)

pub returns : goal.returns
returns c = rw c.in-Some.is at c.in_ok-places.ensures
