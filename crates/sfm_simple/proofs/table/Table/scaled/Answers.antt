use Rattle.std.proofs.Common.{◌*ℤ◌, ap, FitsSigned}
use Rattle.std.proofs.lemmas.Int.{to_z-of_z}
use mir.Syntax.{w128}
use Rattle.sfm_law.proofs.Fits.{given_fits, given_more, product_fits, product_small}
use Rattle.sfm_simple.proofs.table.Table.scaled.Goals as goal

pub returns : goal.returns
returns c =
    let given = c.listed.ensures.given in
    let fq : FitsSigned w128 c.args.q = c.ranges.q in
    let fn : FitsSigned w128 c.listed.result = given_fits _ given in
    let fp : FitsSigned w128 (c.args.q *ℤ c.listed.result) = product_fits _ _ c.requires.factor
    (given_more _ given) in
    let p = simp to_z-of_z at c.product.ensures in
    rw p (simp to_z-of_z (
      ap (λ a. c.args.q *ℤ a) c.listed.ensures.value,
      product_small _ _ c.requires.factor (given_more _ given),
    ))
