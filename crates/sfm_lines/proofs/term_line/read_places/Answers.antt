use Rattle.sfm_kind.specs.Names.{IsNewName}
use Rattle.sfm_lines.specs.TermLines.{IsElement}
use Rattle.sfm_lines.proofs.Matches.{Any-text, AllZip-more}
use Rattle.sfm_lines.proofs.term_line.read_places.Goals as goal

pub returns-in_default : goal.returns-in_default
returns-in_default c = Any-text (IsNewName c.args.instance.now.names) c.args.texts.now
    c.loop-text.text-index _ c.loop-text-test.true c.in_default.ensures.none

pub loop-text-preserved : goal.loop-text-preserved
loop-text-preserved c = AllZip-more (IsElement c.args.instance.now.names) c.args.texts.now
    c.loop-text.places.items c.push.new.self.items c.loop-text.text-index _ c.in-Some.place
    c.loop-text-test.true c.loop-text.invariant c.in-Some.ensures.found c.in_ok-push.ensures.items
