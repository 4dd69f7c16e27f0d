use Rattle.std.proofs.Common.{arith}
use Rattle.sfm_lines.specs.Lines.{texts_of}
use Rattle.sfm_lines.specs.Words.{HasParts}
use Rattle.sfm_lines.specs.ReadParts.{parts_of}
use Rattle.sfm_lines.proofs.FewLabels.{parts-few}
use Rattle.sfm_lines.proofs.TermReasons.{not-entries}
use Rattle.sfm_lines.proofs.term_line.read_term.Goals as goal
use Rattle.sfm_lines.proofs.term_line.read_term.Goals.{In-Some}

-- the tokens have these parts
shape : (c : In-Some) → HasParts c.args.word (texts_of c.args.tokens.now) (parts_of c.in-Some.parts)
shape c = rw c.in-Some.is at c.in_ok-parts.ensures

pub parts_term-requires : goal.parts_term-requires
parts_term-requires c =
    let at = goal.at.parts_term-requires c in
    record {
      names = c.requires.names;
      shape = (texts_of c.args.tokens.now, shape at.In-Some);
      other = not-entries c.args.word _ _ (shape at.In-Some) c.requires.other;
      few = omega (arith, parts-few c.args.word _ _ (shape at.In-Some), c.requires.short);
    }
