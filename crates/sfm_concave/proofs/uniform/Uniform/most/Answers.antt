use Rattle.std.proofs.Common.{◌*ℤ◌, FitsSigned}
use Rattle.std.proofs.lemmas.Int.{to_z-of_z}
use mir.Syntax.{w128}
use Rattle.sfm_law.proofs.Fits.{given_fits, given_more, product_fits, product_small}
use Rattle.sfm_concave.proofs.uniform.Uniform.most.Goals as goal

pub returns-clause-small : goal.returns-clause-small
returns-clause-small c =
    let r = c.requires in
    let s = c.args.self.now in
    let fq : FitsSigned w128 c.args.q = c.ranges.q in
    let fw : FitsSigned w128 s.w = given_fits _ s.given in
    let fp : FitsSigned w128 (c.args.q *ℤ s.w) = product_fits _ _ r.factor (given_more _ s.given) in
    let p = simp to_z-of_z at c.product.ensures in
    rw p (simp to_z-of_z (product_small _ _ r.factor (given_more _ s.given)))
