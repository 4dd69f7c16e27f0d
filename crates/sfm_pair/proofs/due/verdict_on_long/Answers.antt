use Rattle.std.proofs.Common.{length, refl, arith}
use Rattle.sfm_met.proofs.Short.{met_short}
use Rattle.sfm_pair.proofs.due.verdict_on_long.Goals as goal

pub returns : goal.returns
returns c answer l = (
  (λ r. let s = met_short c.args.left.now c.args.right.now answer c.names_len-count.ensures.named
      c.terms-left_terms.ensures.bounded (length c.args.right.now.names)
      c.terms-right_terms.ensures.bounded
      (c.lines-left_lines.ensures.lined, c.lines-right_lines.ensures.lined)
      r in omega (arith, s, l)),
  (refl, l),
)
