use Rattle.std.proofs.Common.{◌≡◌, ◌*ℤ◌, ap, FitsSigned}
use Rattle.std.proofs.lemmas.Int.{to_z-of_z}
use mir.Syntax.{w128}
use Rattle.sfm_law.proofs.Fits.{given_fits, given_more, product_fits, product_small}
use Rattle.sfm_concave.proofs.concave.Concave.scaled.Goals as goal
use Rattle.sfm_concave.proofs.concave.Concave.scaled.Goals.{After-product}

-- what was multiplied
exact : (c : After-product) → c.product.result ≡ (c.args.q *ℤ c.number.result)
exact c =
    let fq : FitsSigned w128 c.args.q = c.ranges.q in
    let fn : FitsSigned w128 c.number.result = given_fits _ c.number.ensures.given in
    simp to_z-of_z at c.product.ensures

pub returns-clause-value : goal.returns-clause-value
returns-clause-value c =
    let fq : FitsSigned w128 c.args.q = c.ranges.q in
    let fp : FitsSigned w128 (c.args.q *ℤ c.number.result) = product_fits _ _ c.requires.factor
    (given_more _ c.number.ensures.given) in
    rw (exact (goal.at.returns-clause-value c).After-product)
    (simp to_z-of_z (ap (λ z. c.args.q *ℤ z) c.number.ensures.value))

pub returns-clause-small : goal.returns-clause-small
returns-clause-small c =
    let fp : FitsSigned w128 (c.args.q *ℤ c.number.result) = product_fits _ _ c.requires.factor
    (given_more _ c.number.ensures.given) in
    rw (exact (goal.at.returns-clause-small c).After-product)
    (simp to_z-of_z (product_small _ _ c.requires.factor (given_more _ c.number.ensures.given)))
