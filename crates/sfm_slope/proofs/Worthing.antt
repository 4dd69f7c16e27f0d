-- What a minimiser is worth, by the least value, which it attains.
use Rattle.std.proofs.Common.{◌≡◌, ℕ, ◌^◌, zero, ◌<◌, Bool, List, length, map, Some, ℤ, pos, negsuc, neg_ℤ, ◌+ℤ◌, ◌-ℤ◌, ◌*ℤ◌, ◌≤ℤ◌, ◌<ℤ◌, ap, ◌∙◌, arith}
use Rattle.std.proofs.Math.Nat.{lt-mul-div-succ, mul-div-le}
use Rattle.std.proofs.lemmas.Int.{ints, by_lt_z}
use Rattle.std.specs.Int.{int_div_euclid}
use Rattle.sfm_spec.specs.Sets.{empty_set, size, sum_over}
use Rattle.sfm_spec.specs.Terms.{SetFunction}
use Rattle.sfm_spec.specs.Bounds.{IsAtMost, IsFactor, IsGiven, total_of}
use Rattle.sfm_spec.specs.Families.{IsAllowed, meanings, shifted_at, sized_shift, sum_at}
use Rattle.sfm_spec.proofs.Scaled.{times-add, times-cancel, times-comm, times-mono}
use Rattle.sfm_spec.proofs.Slopes.{sum_over-sized}
use Rattle.sfm_slope.specs.declared.worth.Worth.{Worth}
use Rattle.sfm_slope.specs.Worths.{IsWorth}
use Rattle.sfm_slope.proofs.Floors.{floor-least}
use Rattle.sfm_slope.proofs.Values.{all_given, value_small}

-- a number lies below its floor and one more
floor-most : (p q : ℤ) → pos 1 ≤ℤ q → p <ℤ (q *ℤ int_div_euclid p q +ℤ q)
floor-most p (negsuc b) one = absurd (omega (arith, ints, one))
floor-most (pos a) (pos b) one =
    let some : zero < b = omega (arith, ints, one) in omega (
      arith,
      ints,
      lt-mul-div-succ a {b = b} some,
    )
floor-most (negsuc a) (pos b) one = omega (arith, ints, mul-div-le a b)

-- the quotient of a multiple
pub quotient-times : (q s : ℤ) → pos 1 ≤ℤ q → int_div_euclid (q *ℤ s) q ≡ s
quotient-times q s one =
    let f = int_div_euclid (q *ℤ s) q in
    let low : f ≤ℤ s = times-cancel q f s one (floor-least (q *ℤ s) q one) in
    let more = floor-most (q *ℤ s) q one in
    let high : s ≤ℤ f = by_lt_z f s
    (λ lt.
    let up = times-mono q (f +ℤ pos 1) s (omega (arith, ints, one)) (omega (arith, ints, lt)) in
    let e = times-add q f (pos 1) in
    absurd (omega (arith, ints, up, e, more)))
    (λ le. le) in
    omega (arith, ints, low, high)

-- p times a weight
pub product_small : (p w : ℤ) → IsAtMost (10 ^ 21) p → pos 0 ≤ℤ w → w ≤ℤ pos (10 ^ 6)
    → IsAtMost (10 ^ 27) (p *ℤ w)
product_small p w h low high =
    let up = times-mono w p (pos (10 ^ 21)) low h.high in
    let down = times-mono w (neg_ℤ (pos (10 ^ 21))) p low h.low in
    let c = times-comm p w in
    record {
      low = omega (arith, ints, down, c, high, low);
      high = omega (arith, ints, up, c, high);
    }

-- q times a sum
pub multiple_small : (q s : ℤ) → IsFactor q → IsGiven s → IsAtMost (10 ^ 24) (q *ℤ s)
multiple_small q s f h =
    let up = times-mono q s (pos (10 ^ 18)) (omega (arith, ints, f.low)) h.high in
    let down = times-mono q (neg_ℤ (pos (10 ^ 18))) s (omega (arith, ints, f.low)) h.low in
    record { low = omega (arith, ints, down, f.high); high = omega (arith, ints, up, f.high) }

-- a set that attains the least value at a slope, over terms whose sizes add to at most 10^18
module _ {X : Type 0} (places : X → List ℕ) (value : X → SetFunction) (bound : X → ℤ)
    (bounded : (x : X) (s : List Bool) (a : ℤ) → length s ≡ length (places x) → value x s ≡ Some a
    → (neg_ℤ (bound x) ≤ℤ a) × (a ≤ℤ bound x))
    (empty : (x : X) → value x (empty_set (length (places x))) ≡ Some (pos 0))
    (xs : List X) (small : total_of (map bound xs) ≤ℤ pos (10 ^ 18)) (sizes : List ℤ) (p q v : ℤ)
    (s : List Bool)
    (attains : v ≡ shifted_at (meanings places value xs) q (sized_shift sizes p) s) where
  given : IsGiven (sum_at (meanings places value xs) s)
  given = all_given places value bound s (value_small places value bound bounded empty s) xs small

  by_weight : v ≡ (q *ℤ sum_at (meanings places value xs) s -ℤ p *ℤ sum_over s sizes)
  by_weight = attains ∙ ap (λ y. q *ℤ sum_at (meanings places value xs) s -ℤ y)
      (sum_over-sized s sizes p)

  -- the value is that of the sum there, less what the slope takes
  pub attained_by : (sum : ℤ) × IsGiven sum × (v ≡ (q *ℤ sum -ℤ p *ℤ sum_over s sizes))
  attained_by = (sum_at (meanings places value xs) s, given, by_weight)

  -- so what it is worth follows
  pub attained_worth : (w : Worth) → IsAllowed (meanings places value xs) s → w.set ≡ s
      → w.size ≡ size s → w.weight ≡ sum_over s sizes
      → ((sum : ℤ) → IsGiven sum → v ≡ (q *ℤ sum -ℤ p *ℤ sum_over s sizes) → w.sum ≡ sum)
      → IsWorth (meanings places value xs) sizes w
  attained_worth w allowed same count weight sum = record {
    allowed = rw same allowed;
    size = rw same count;
    weight = rw same weight;
    sum = rw same (sum (sum_at (meanings places value xs) s) given by_weight);
    small = rw (sum (sum_at (meanings places value xs) s) given by_weight) given;
  }
