use Rattle.std.proofs.Common.{◌*ℤ◌, FitsSigned}
use Rattle.std.proofs.lemmas.Int.{to_z-of_z}
use mir.Syntax.{w128}
use Rattle.sfm_law.proofs.Fits.{given_more, product_fits, product_high, product_low}
use Rattle.sfm_matroid.proofs.Fits.{product_is}
use Rattle.sfm_matroid.proofs.Passed.{factor_passed, more_passed}
use Rattle.sfm_matroid.proofs.ranked.cap_of.Goals as goal

pub product-requires-clause-factor : goal.product-requires-clause-factor
product-requires-clause-factor c = factor_passed c.args.q c.requires.factor

pub product-requires-clause-given : goal.product-requires-clause-given
product-requires-clause-given c = more_passed c.args.w c.requires.weight.given

pub returns-clause-low : goal.returns-clause-low
returns-clause-low c =
    let r = c.requires in
    let f : FitsSigned w128 (c.args.q *ℤ c.args.w) = product_fits c.args.q c.args.w r.factor
    (given_more c.args.w r.weight.given) in
    rw (product_is c.args.q c.args.w c.ranges.q r.weight.given c.product.result c.product.ensures)
    (simp to_z-of_z (product_low c.args.q c.args.w r.factor r.weight.low))

pub returns-clause-high : goal.returns-clause-high
returns-clause-high c =
    let r = c.requires in
    let f : FitsSigned w128 (c.args.q *ℤ c.args.w) = product_fits c.args.q c.args.w r.factor
    (given_more c.args.w r.weight.given) in
    rw (product_is c.args.q c.args.w c.ranges.q r.weight.given c.product.result c.product.ensures)
    (simp to_z-of_z (product_high c.args.q c.args.w r.factor r.weight.given))
