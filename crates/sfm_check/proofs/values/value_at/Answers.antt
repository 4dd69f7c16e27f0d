use Rattle.std.proofs.Common.{◌^◌, ℕ, ℤ, pos, neg_ℤ, ◌-ℤ◌, ◌*ℤ◌, ◌≤ℤ◌, arith, refl, FitsSigned}
use Rattle.std.proofs.lemmas.Int.{ints, to_z-of_z}
use mir.Syntax.{w128}
use Rattle.sfm_spec.specs.Bounds.{IsAtMost, IsEntry, IsFactor, IsGiven}
use Rattle.sfm_spec.proofs.Scaled.{times-comm, times-mono, times-neg}
use Rattle.sfm_check.proofs.values.value_at.Goals as goal

-- a product of a factor of at most k and of a number of at most m
product_bound : (k m : ℕ) (q a : ℤ) → pos 0 ≤ℤ q → q ≤ℤ pos k → IsAtMost m a
    → (neg_ℤ (pos m *ℤ pos k) ≤ℤ (q *ℤ a)) × ((q *ℤ a) ≤ℤ (pos m *ℤ pos k))
product_bound k m q a low high h =
    let up = times-mono q a (pos m) low h.high in
    let down = times-mono q (neg_ℤ (pos m)) a low h.low in
    let turned = times-neg q (pos m) in
    let wide = times-mono (pos m) q (pos k) (omega (arith, ints)) high in
    let same = times-comm q (pos m) in (
      omega (arith, ints, up, down, turned, wide, same),
      omega (arith, ints, up, down, turned, wide, same),
    )

-- the words of a value, and what is computed of them
are_small : (den num sum weight : ℤ) → IsFactor den → IsEntry num → IsGiven sum → (pos 0 ≤ℤ weight)
    × (weight ≤ℤ pos (10 ^ 6))
    → FitsSigned w128 den × FitsSigned w128 num × FitsSigned w128 sum × FitsSigned w128 weight
    × FitsSigned w128 (den *ℤ sum) × FitsSigned w128 (num *ℤ weight)
    × FitsSigned w128 (den *ℤ sum -ℤ num *ℤ weight)
are_small den num sum weight factor entry given few =
    let low = factor.low in
    let a = product_bound (10 ^ 6) (10 ^ 18) den sum (omega (arith, ints, low)) factor.high given in
    let b = product_bound (10 ^ 6) (10 ^ 30) weight num few.0 few.1 entry in
    let same = times-comm num weight in
    let a0 = a.0 in
    let a1 = a.1 in
    let b0 = b.0 in
    let b1 = b.1 in (
      omega (arith, ints, factor),
      omega (arith, ints, entry),
      omega (arith, ints, given),
      omega (arith, ints, few),
      omega (arith, ints, a0, a1),
      omega (arith, ints, b0, b1, same),
      omega (arith, ints, a0, a1, b0, b1, same),
    )

pub overflow_mul-values : goal.overflow_mul-values
overflow_mul-values c = let (fd, fn, fs, fw, first, second, both) = are_small c.args.slope.now.den
    c.args.slope.now.num c.args.worth.now.sum c.args.worth.now.weight c.args.slope.now.factor
    c.args.slope.now.entry c.requires.sum c.requires.weight in simp to_z-of_z first

pub overflow_mul-shift : goal.overflow_mul-shift
overflow_mul-shift c = let (fd, fn, fs, fw, first, second, both) = are_small c.args.slope.now.den
    c.args.slope.now.num c.args.worth.now.sum c.args.worth.now.weight c.args.slope.now.factor
    c.args.slope.now.entry c.requires.sum c.requires.weight in simp to_z-of_z second

pub overflow_sub-result : goal.overflow_sub-result
overflow_sub-result c =
    let (fd, fn, fs, fw, first, second, both) = are_small c.args.slope.now.den c.args.slope.now.num
    c.args.worth.now.sum c.args.worth.now.weight c.args.slope.now.factor c.args.slope.now.entry
    c.requires.sum c.requires.weight in
    simp to_z-of_z both

pub returns : goal.returns
returns c =
    let (fd, fn, fs, fw, first, second, both) = are_small c.args.slope.now.den c.args.slope.now.num
    c.args.worth.now.sum c.args.worth.now.weight c.args.slope.now.factor c.args.slope.now.entry
    c.requires.sum c.requires.weight in
    simp to_z-of_z refl
