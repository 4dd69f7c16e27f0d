use Rattle.std.proofs.Common.{FitsSigned}
use Rattle.std.proofs.lemmas.Int.{to_z-of_z}
use mir.Syntax.{w128}
use Rattle.sfm_law.proofs.Fits.{product_fits}
use Rattle.sfm_law.proofs.numbers.product.Goals as goal

pub overflow_mul-result : goal.overflow_mul-result
overflow_mul-result c =
    let fq : FitsSigned w128 c.args.q = c.ranges.q in
    let fw : FitsSigned w128 c.args.w = c.ranges.w in
    simp to_z-of_z (product_fits c.args.q c.args.w c.requires.factor c.requires.given)
