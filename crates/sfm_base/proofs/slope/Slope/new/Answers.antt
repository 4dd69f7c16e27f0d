-- both are divided by their greatest common divisor
use Rattle.std.proofs.Common.{◌≡◌, ℕ, ℤ, pos, nat_abs, ◌*ℤ◌, to_z, of_z, FitsSigned, subst, ap, ◌∙◌, rules}
use Rattle.std.specs.Int.{IsGcd, ◌∣◌, w128}
use Rattle.std.proofs.lemmas.Int.{to_z-of_z}
use Rattle.sfm_spec.specs.Bounds.{IsFactor}
use Rattle.sfm_base.proofs.Slopes.{IsDivisor, divisor_by_gcd, lowest_by_gcd, same_slope, entry_divided, factor_divided}
use Rattle.sfm_base.proofs.slope.Slope.new.Goals as goal

divisor_of : (p q : ℤ) (a b g : ℕ) → FitsSigned w128 p → FitsSigned w128 q
    → a ≡ nat_abs (to_z w128 (of_z w128 p)) → b ≡ nat_abs (to_z w128 (of_z w128 q)) → IsGcd a b g
    → IsFactor q → IsDivisor p q g
divisor_of p q a b g fp fq e f h factor =
    divisor_by_gcd p q g factor
    (subst (λ (m : ℕ). IsGcd m (nat_abs q) g) (e ∙ ap nat_abs (to_z-of_z w128 p fp))
    (subst (λ (m : ℕ). IsGcd a m g) (f ∙ ap nat_abs (to_z-of_z w128 q fq)) h))

pub quotient-requires : goal.quotient-requires
quotient-requires c =
    let d = divisor_of c.args.p c.args.q _ _ _ c.ranges.p c.ranges.q c.unsigned_abs.ensures.value
    c.unsigned_abs-2.ensures.value c.greatest_divisor-divisor.ensures c.requires.factor in
    record {
      some = d.some;
      small = d.small;
      divides = subst (λ (m : ℕ). c.greatest_divisor-divisor.result ∣ m)
          c.unsigned_abs.ensures.value c.greatest_divisor-divisor.ensures.0;
    }

pub quotient-requires-2 : goal.quotient-requires-2
quotient-requires-2 c =
    let d = divisor_of c.args.p c.args.q _ _ _ c.ranges.p c.ranges.q c.unsigned_abs.ensures.value
    c.unsigned_abs-2.ensures.value c.greatest_divisor-divisor.ensures c.requires.factor in
    record {
      some = d.some;
      small = d.small;
      divides = subst (λ (m : ℕ). c.greatest_divisor-divisor.result ∣ m)
          c.unsigned_abs-2.ensures.value c.greatest_divisor-divisor.ensures.1;
    }

pub invariant_of-result : goal.invariant_of-result
invariant_of-result c =
    let d = divisor_of c.args.p c.args.q _ _ _ c.ranges.p c.ranges.q c.unsigned_abs.ensures.value
    c.unsigned_abs-2.ensures.value c.greatest_divisor-divisor.ensures c.requires.factor in
    let f : FitsSigned w128 c.quotient.result = search rules in
    let g : FitsSigned w128 c.quotient-2.result = search rules in
    let e : (pos c.greatest_divisor-divisor.result *ℤ c.quotient.result)
    ≡ c.args.p = c.quotient.ensures ∙ to_z-of_z w128 c.args.p c.ranges.p in
    let h : (pos c.greatest_divisor-divisor.result *ℤ c.quotient-2.result)
    ≡ c.args.q = c.quotient-2.ensures ∙ to_z-of_z w128 c.args.q c.ranges.q in
    simp to_z-of_z (record {
      lowest = lowest_by_gcd _ _ _ _ _ d.some d.gcd e h c.requires.factor.low;
      entry = entry_divided _ _ _ _ d e c.requires.entry;
      factor = factor_divided _ _ _ _ d h c.requires.factor;
    })

pub returns-clause-same : goal.returns-clause-same
returns-clause-same c =
    let f : FitsSigned w128 c.quotient.result = search rules in
    let g : FitsSigned w128 c.quotient-2.result = search rules in
    let e : (pos c.greatest_divisor-divisor.result *ℤ c.quotient.result)
    ≡ c.args.p = c.quotient.ensures ∙ to_z-of_z w128 c.args.p c.ranges.p in
    let h : (pos c.greatest_divisor-divisor.result *ℤ c.quotient-2.result)
    ≡ c.args.q = c.quotient-2.ensures ∙ to_z-of_z w128 c.args.q c.ranges.q in
    simp to_z-of_z (same_slope _ _ _ _ _ e h c.requires.factor.low)
