use Rattle.std.proofs.Common.{◌≡◌, ◌+ℤ◌, ◌-ℤ◌, ◌*ℤ◌, ℤ, ap, ◌∙◌, FitsSigned, to_z, arith, rules}
use Rattle.std.specs.Int.{int_div_euclid}
use Rattle.std.proofs.lemmas.Int.{ints, to_z-of_z}
use mir.Syntax.{w128}
use Rattle.sfm_spec.specs.Sets.{sum_over}
use Rattle.sfm_slope.proofs.Worthing.{multiple_small, product_small, quotient-times}
use Rattle.sfm_slope.proofs.attained.worth_by.Goals as goal
use Rattle.sfm_slope.proofs.attained.worth_by.Goals.{After-weight_of-weight}

-- p times the weight fits
taken_fits : (c : After-weight_of-weight)
    → FitsSigned w128 (c.args.ratio.p *ℤ c.weight_of-weight.result)
taken_fits c =
    let w = c.weight_of-weight.ensures in
    let most = c.requires.sizes.small in
    let s = product_small c.args.ratio.p c.weight_of-weight.result c.args.ratio.small w.low
    (omega (arith, ints, w.high, most)) in
    omega (arith, ints, s.low, s.high)

-- what is taken from q times a sum, put back, is q times that sum
put_back : (c : After-weight_of-weight) (sum : ℤ)
    → c.args.found.value ≡ (c.args.ratio.q *ℤ sum -ℤ c.args.ratio.p *ℤ sum_over c.args.found.set
    c.args.sizes.now)
    → (c.args.found.value +ℤ c.args.ratio.p *ℤ c.weight_of-weight.result) ≡ (c.args.ratio.q *ℤ sum)
put_back c sum is =
    let e = ap (λ w. c.args.ratio.p *ℤ w) c.weight_of-weight.ensures.weight in
    omega (arith, ints, e, is)

-- and fits
back_fits : (c : After-weight_of-weight)
    → FitsSigned w128 (c.args.found.value +ℤ c.args.ratio.p *ℤ c.weight_of-weight.result)
back_fits c =
    let (sum, given, is) = c.requires.value in
    let b = put_back c sum is in
    let s = multiple_small c.args.ratio.q sum c.args.ratio.factor given in
    omega (arith, ints, b, s.low, s.high)

pub overflow_mul-ratio : goal.overflow_mul-ratio
overflow_mul-ratio c =
    let at = (goal.at.overflow_mul-ratio c).After-weight_of-weight in
    let fp : FitsSigned w128 c.args.ratio.p = omega (
      arith,
      ints,
      c.args.ratio.small.low,
      c.args.ratio.small.high,
    ) in
    let w = c.weight_of-weight.ensures in
    let most = c.requires.sizes.small in
    let fw : FitsSigned w128 c.weight_of-weight.result = omega (arith, ints, w.low, w.high, most) in
    simp to_z-of_z (taken_fits at)

pub overflow_add-value : goal.overflow_add-value
overflow_add-value c =
    let at = (goal.at.overflow_add-value c).After-weight_of-weight in
    let fp : FitsSigned w128 c.args.ratio.p = omega (
      arith,
      ints,
      c.args.ratio.small.low,
      c.args.ratio.small.high,
    ) in
    let w = c.weight_of-weight.ensures in
    let most = c.requires.sizes.small in
    let fw : FitsSigned w128 c.weight_of-weight.result = omega (arith, ints, w.low, w.high, most) in
    let ft = taken_fits at in
    let fv : FitsSigned w128 c.args.found.value = search rules in
    simp to_z-of_z (back_fits at)

pub div_euclid-sum-requires-clause-no_overflow : goal.div_euclid-sum-requires-clause-no_overflow
div_euclid-sum-requires-clause-no_overflow c =
    let one = c.args.ratio.factor.low in
    let fq : FitsSigned w128 c.args.ratio.q = omega (
      arith,
      ints,
      c.args.ratio.factor.low,
      c.args.ratio.factor.high,
    ) in
    λ e. let m = ap (to_z w128) e in absurd (omega (arith, ints, one, m))

pub returns-clause-sum : goal.returns-clause-sum
returns-clause-sum c =
    let at = (goal.at.returns-clause-sum c).After-weight_of-weight in
    let fp : FitsSigned w128 c.args.ratio.p = omega (
      arith,
      ints,
      c.args.ratio.small.low,
      c.args.ratio.small.high,
    ) in
    let fq : FitsSigned w128 c.args.ratio.q = omega (
      arith,
      ints,
      c.args.ratio.factor.low,
      c.args.ratio.factor.high,
    ) in
    let w = c.weight_of-weight.ensures in
    let most = c.requires.sizes.small in
    let fw : FitsSigned w128 c.weight_of-weight.result = omega (arith, ints, w.low, w.high, most) in
    let ft = taken_fits at in
    let fv : FitsSigned w128 c.args.found.value = search rules in
    let fb = back_fits at in
    let fr : FitsSigned w128 c.div_euclid-sum.result = search rules in
    let is : c.div_euclid-sum.result ≡ int_div_euclid
    (c.args.found.value +ℤ c.args.ratio.p *ℤ c.weight_of-weight.result) c.args.ratio.q =
    simp to_z-of_z at c.div_euclid-sum.ensures in
    λ sum given same.
    let whole = is ∙ (ap (λ v. int_div_euclid v c.args.ratio.q) (put_back at sum same)
    ∙ quotient-times c.args.ratio.q sum c.args.ratio.factor.low) in
    simp to_z-of_z whole
