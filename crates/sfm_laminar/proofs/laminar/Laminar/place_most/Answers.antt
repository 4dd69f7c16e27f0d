use Rattle.std.proofs.Common.{◌≡◌, ◌*ℤ◌, FitsSigned}
use Rattle.std.proofs.lemmas.Int.{to_z-of_z}
use mir.Syntax.{w128}
use mir.Val.{to_z, of_z}
use Rattle.sfm_law.proofs.Fits.{given_fits, given_more, product_fits, product_low, product_high}
use Rattle.sfm_laminar.proofs.laminar.Laminar.place_most.Goals as goal
use Rattle.sfm_laminar.proofs.laminar.Laminar.place_most.Goals.{After-product}

pub product-requires-clause-factor : goal.product-requires-clause-factor
product-requires-clause-factor c = let fq : FitsSigned w128 c.args.q = c.ranges.q in simp to_z-of_z
    c.requires.factor

pub product-requires-clause-given : goal.product-requires-clause-given
product-requires-clause-given c = let fw : FitsSigned w128 c.args.self.now.w = given_fits _
    c.args.self.now.given in simp to_z-of_z (given_more _ c.args.self.now.given)

-- what comes of it fits 128 bits
kept : (c : After-product) → to_z w128
    (of_z w128 c.product.result) ≡ (c.args.q *ℤ c.args.self.now.w)
kept c =
    let s = c.args.self.now in
    let fq : FitsSigned w128 c.args.q = c.ranges.q in
    let fw : FitsSigned w128 s.w = given_fits _ s.given in
    let p : c.product.result ≡ (c.args.q *ℤ s.w) = simp to_z-of_z at c.product.ensures in
    rw p (to_z-of_z w128 _ (product_fits _ _ c.requires.factor (given_more _ s.given)))

pub returns-clause-value : goal.returns-clause-value
returns-clause-value c = kept (goal.at.returns-clause-value c).After-product

pub returns-clause-low : goal.returns-clause-low
returns-clause-low c = let s = c.args.self.now in rw (kept
    (goal.at.returns-clause-low c).After-product) (product_low c.args.q s.w c.requires.factor s.low)

pub returns-clause-high : goal.returns-clause-high
returns-clause-high c = let s = c.args.self.now in rw (kept
    (goal.at.returns-clause-high c).After-product)
    (product_high c.args.q s.w c.requires.factor s.given)
