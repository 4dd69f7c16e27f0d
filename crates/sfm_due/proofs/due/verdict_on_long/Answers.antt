use Rattle.std.proofs.Common.{refl, arith}
use Rattle.sfm_check.proofs.Short.{right_short}
use Rattle.sfm_due.proofs.due.verdict_on_long.Goals as goal

pub returns : goal.returns
returns c answer l = (
  (λ r. let s = right_short c.args._header c.args.instance.now c.args._sizes.now answer
      c.names_len-count.ensures.named c.terms-terms.ensures.bounded c.lines-lines.ensures.lined
      c.requires r in omega (arith, s, l)),
  (refl, l),
)
