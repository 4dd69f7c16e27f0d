-- The line has the parts that its pieces have.
use Rattle.std.proofs.lemmas.Result.{IfOk-weaker}
use Rattle.sfm_lines.specs.Lines.{texts_of}
use Rattle.sfm_lines.specs.ReadParts.{parts_of}
use Rattle.sfm_lines.proofs.Pieces.{laminar-made}
use Rattle.sfm_lines.proofs.laminar_line.laminar_parts.Goals as goal

pub returns : goal.returns
returns c = IfOk-weaker c.group_parts.result _ _
    (λ r h. laminar-made parts_of (texts_of c.args.tokens.now) c.in-Some.number.now
    (texts_of c.in-Some.behind.now) c.in-Some.ensures r h)
    (rw (c.deref.ensures.value, c.in_ok-pieces.ensures) at c.group_parts.ensures)
