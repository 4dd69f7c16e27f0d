-- Each rank is tried in turn, and a line of none of them is of no rank.
use Rattle.std.proofs.lemmas.Result.{IfOk-weaker}
use Rattle.sfm_lines.specs.Lines.{texts_of}
use Rattle.sfm_lines.specs.ReadParts.{parts_of}
use Rattle.sfm_lines.proofs.Ranks.{rank-made}
use Rattle.sfm_lines.proofs.line_parts.rank_parts.Goals as goal

pub returns : goal.returns
returns c = IfOk-weaker c.graphic_parts.result _ _
    (λ r h. rank-made parts_of (texts_of c.args.tokens.now)
    (rw c.in_default.is at c.in_ok-parts.ensures) (rw c.in_default-2.is at c.in_ok-parts-2.ensures)
    (λ parts t. c.requires (parts, t)) r h) c.graphic_parts.ensures
