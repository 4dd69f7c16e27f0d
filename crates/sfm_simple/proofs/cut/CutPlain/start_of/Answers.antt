use Rattle.std.proofs.Common.{◌≡◌, ◌∙◌, ap, [], ◌∷◌, neg_ℤ, pos, ◌*ℤ◌, ◌-ℤ◌, arith, FitsSigned}
use Rattle.std.proofs.lemmas.Int.{ints, to_z-of_z}
use mir.Syntax.{w128}
use Rattle.sfm_law.proofs.Fits.{given_fits, given_more, product_fits}
use Rattle.sfm_simple.proofs.Pairs.{both_written}
use Rattle.sfm_simple.specs.CutLaws.{cut-greedy, product_not_negative}
use Rattle.sfm_simple.proofs.cut.CutPlain.start_of.Goals as goal

pub returns-clause-start : goal.returns-clause-start
returns-clause-start c =
    let s = c.args.self.now in
    let fq : FitsSigned w128 c.args.q = c.ranges.q in
    let fc : FitsSigned w128 s.c = given_fits _ s.given in
    let fm : FitsSigned w128 (c.args.q *ℤ s.c) = product_fits _ _ c.requires.factor
    (given_more _ s.given) in
    let fn : FitsSigned w128 (pos 0 -ℤ (c.args.q *ℤ s.c)) = (let low = product_not_negative c.args.q
    s.c c.requires.factor.low s.low in omega (arith, ints, fm, low)) in
    let p = simp to_z-of_z at c.product-most.ensures in
    let z : (pos 0 -ℤ (c.args.q *ℤ s.c)) ≡ neg_ℤ (c.args.q *ℤ s.c) = omega (arith, ints) in
    rw (both_written c.args.x.now _ _ (c.requires.entries ∙ s.two), p)
    (simp to_z-of_z (ap (λ w. (c.args.q *ℤ s.c) ∷ w ∷ []) z))

pub returns-clause-greedy : goal.returns-clause-greedy
returns-clause-greedy c = rw (returns-clause-start c)
    (cut-greedy _ c.args.q c.args.self.now.c c.args.self.now.two)

pub product-most-requires-clause-factor : goal.product-most-requires-clause-factor
product-most-requires-clause-factor c =
    let fq : FitsSigned w128 c.args.q = c.ranges.q in simp to_z-of_z c.requires.factor

pub product-most-requires-clause-given : goal.product-most-requires-clause-given
product-most-requires-clause-given c = let fc : FitsSigned w128 c.args.self.now.c = given_fits _
    c.args.self.now.given in simp to_z-of_z (given_more _ c.args.self.now.given)
