use Rattle.std.proofs.Common.{◌*ℤ◌, FitsSigned}
use Rattle.std.proofs.lemmas.Bool.{both_ways, false≢true}
use Rattle.std.proofs.lemmas.Int.{to_z-of_z}
use mir.Syntax.{w128}
use Rattle.sfm_law.proofs.Fits.{given_more, product_fits, product_high, rank_fits}
use Rattle.sfm_matroid.proofs.Fits.{product_is, within_amounts}
use Rattle.sfm_matroid.proofs.Passed.{factor_passed, more_passed, small_passed, weigh_passed}
use Rattle.sfm_matroid.proofs.ranked.adds_up.Goals as goal

pub returns-then-not-are_within-clause-told : goal.returns-then-not-are_within-clause-told
returns-then-not-are_within-clause-told c =
    let r = c.requires in
    let q = c.args.q in
    let w = c.args.w in
    let fp : FitsSigned w128 (q *ℤ w) = product_fits _ _ r.factor
    (given_more _ r.weigh.weight.given) in
    let within = simp to_z-of_z at
    (rw (product_is q w c.ranges.q r.weigh.weight.given c.product-most.result
    c.product-most.ensures) at c.are_within.ensures) in (
      (λ t. absurd (false≢true t)),
      (λ h. absurd (both_ways c.are_within.result c.if-not-are_within.true (within.1 h.0))),
    )

pub returns-clause-told : goal.returns-clause-told
returns-clause-told c =
    let r = c.requires in
    let q = c.args.q in
    let w = c.args.w in
    let fp : FitsSigned w128 (q *ℤ w) = product_fits _ _ r.factor
    (given_more _ r.weigh.weight.given) in
    let within = simp to_z-of_z at
    (rw (product_is q w c.ranges.q r.weigh.weight.given c.product-most.result
    c.product-most.ensures) at c.are_within.ensures) in
    let fq : FitsSigned w128 q = c.ranges.q in
    let small = c.worth-whole.ensures.small in
    let fl : FitsSigned w128 c.worth-whole.result = rank_fits _ small in
    let fs : FitsSigned w128 (q *ℤ c.worth-whole.result) = product_fits _ _ r.factor small in
    let fw : FitsSigned w128 w = c.ranges.w in
    let t = simp to_z-of_z at c.product-sum.ensures in
    let whole = simp to_z-of_z at c.worth-whole.ensures.value in
    let sum = rw whole at (simp to_z-of_z at (rw t at c.has_sum.ensures)) in
    ((λ h. (within.0 c.if-not-are_within.false, sum.0 h)), (λ h. sum.1 h.1))

pub returns-clause-amounts : goal.returns-clause-amounts
returns-clause-amounts c =
    let r = c.requires in
    let told = returns-clause-told c in
    λ h. within_amounts c.args.x.now (c.args.q *ℤ c.args.w)
    (product_high c.args.q c.args.w r.factor r.weigh.weight.given) (told.0 h).0

pub returns-then-not-are_within-clause-amounts : goal.returns-then-not-are_within-clause-amounts
returns-then-not-are_within-clause-amounts c = λ t. absurd (false≢true t)

pub product-most-requires-clause-factor : goal.product-most-requires-clause-factor
product-most-requires-clause-factor c = factor_passed c.args.q c.requires.factor

pub product-most-requires-clause-given : goal.product-most-requires-clause-given
product-most-requires-clause-given c = more_passed c.args.w c.requires.weigh.weight.given

pub product-sum-requires-clause-factor : goal.product-sum-requires-clause-factor
product-sum-requires-clause-factor c = factor_passed c.args.q c.requires.factor

pub product-sum-requires-clause-given : goal.product-sum-requires-clause-given
product-sum-requires-clause-given c = small_passed c.worth-whole.result c.worth-whole.ensures.small

pub worth-whole-requires : goal.worth-whole-requires
worth-whole-requires c = let weigh = c.requires.weigh in weigh_passed c.args.w c.args.set.now
    weigh.weight.given weigh.weight.low weigh.few

pub has_sum-requires-clause-few : goal.has_sum-requires-clause-few
has_sum-requires-clause-few c = c.requires.few

pub has_sum-requires-clause-small : goal.has_sum-requires-clause-small
has_sum-requires-clause-small c = c.requires.small
