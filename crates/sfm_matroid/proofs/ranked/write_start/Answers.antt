use Rattle.std.proofs.Common.{◌*ℤ◌, FitsSigned}
use Rattle.std.proofs.lemmas.Int.{to_z-of_z}
use mir.Syntax.{w128}
use Rattle.sfm_law.proofs.Fits.{given_more, product_fits}
use Rattle.sfm_matroid.proofs.ranked.write_start.Goals as goal

pub returns : goal.returns
returns c =
    let q = c.args.q in
    let w = c.args.w in
    let fq : FitsSigned w128 q = c.ranges.q in
    let fw : FitsSigned w128 w = c.ranges.w in
    let fp : FitsSigned w128 (q *ℤ w) = product_fits _ _ c.requires.factor
    (given_more _ c.requires.given) in
    let p = simp to_z-of_z at c.product.ensures in
    simp to_z-of_z at (rw p at c.write_at.ensures)
