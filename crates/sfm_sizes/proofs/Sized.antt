-- Shifts by sizes stay small; at the slope 0 they are the same for all sizes.
use Rattle.std.proofs.Common.{◌≡◌, ℕ, ◌+◌, ◌*◌, ◌^◌, ◌<◌, List, [], ◌∷◌, ◌++◌, length, get_or, take, nat_abs, FitsSigned, ℤ, pos, negsuc, neg_ℤ, ◌*ℤ◌, ◌≤ℤ◌, refl, ap, ◌∙◌, arith}
use Rattle.std.proofs.lemmas.Int.{ints}
use Rattle.std.proofs.lemmas.List.{map-append, take_more}
use Rattle.std.proofs.lemmas.List.Elements.{All-head, All-tail}
use mir.Syntax.{w128}
use Rattle.sfm_spec.specs.Sets.{magnitudes}
use Rattle.sfm_spec.specs.Bounds.{IsAtMost, total_of}
use Rattle.sfm_spec.specs.Families.{even_shift, sized_shift}
use Rattle.sfm_spec.proofs.Scaled.{times-add, times-comm, times-mono, times-neg}
use Rattle.sfm_spec.proofs.Sizes.{AreSizes}
use Rattle.sfm_law.proofs.Lists.{below-total}
use Rattle.sfm_sizes.specs.Sizes.{AreElementSizes}

-- a number within both bounds has a small magnitude
abs-within : (z b : ℤ) → neg_ℤ b ≤ℤ z → z ≤ℤ b → pos (nat_abs z) ≤ℤ b
abs-within (pos n) b low high = high
abs-within (negsuc n) b low high = omega (arith, ints, low)

-- p times a size is within m times it
pub product-within : (m : ℕ) (p w : ℤ) → IsAtMost m p → pos 1 ≤ℤ w
    → (neg_ℤ (pos m *ℤ w) ≤ℤ (p *ℤ w)) × ((p *ℤ w) ≤ℤ (pos m *ℤ w))
product-within m p w h one =
    let low = times-mono w (neg_ℤ (pos m)) p (omega (arith, ints, one)) h.low in
    let high = times-mono w p (pos m) (omega (arith, ints, one)) h.high in (
      rw (times-comm p w, times-comm (pos m) w, ← times-neg w (pos m)) low,
      rw (times-comm p w, times-comm (pos m) w) high,
    )

-- the magnitudes of the shift by sizes add to at most m times all sizes, where p is within m
pub magnitudes-sized : (m : ℕ) (sizes : List ℤ) (p : ℤ) → IsAtMost m p → AreSizes sizes
    → magnitudes (sized_shift sizes p) ≤ℤ (pos m *ℤ total_of sizes)
magnitudes-sized m [] p h are = omega (arith, ints)
magnitudes-sized m (w ∷ sizes) p h are =
    let r = magnitudes-sized m sizes p h (All-tail (λ v. pos 1 ≤ℤ v) w sizes are) in
    let b = product-within m p w h (All-head (λ v. pos 1 ≤ℤ v) w sizes are) in
    let one = abs-within (p *ℤ w) (pos m *ℤ w) b.0 b.1 in
    let e = times-add (pos m) w (total_of sizes) in
    omega (arith, ints, r, one, e)

-- and so to at most 10^6 m for the sizes of some elements
pub sized-small : (m n : ℕ) (sizes : List ℤ) (p : ℤ) → IsAtMost m p → AreElementSizes n sizes
    → magnitudes (sized_shift sizes p) ≤ℤ pos (m * 10 ^ 6)
sized-small m n sizes p h are =
    let b = magnitudes-sized m sizes p h are.positive in
    let k = times-mono (pos m) (total_of sizes) (pos (10 ^ 6)) (omega (arith, ints)) are.small in
    omega (arith, ints, b, k)

-- the shift by 0
pub sized-zero : (sizes : List ℤ) → sized_shift sizes (pos 0) ≡ even_shift (length sizes) (pos 0)
sized-zero [] = refl
sized-zero (w ∷ sizes) =
    let none : (pos 0 *ℤ w) ≡ pos 0 = omega (arith, ints) in
    ap (λ a. a ∷ sized_shift sizes (pos 0)) none ∙ ap (λ x. pos 0 ∷ x) (sized-zero sizes)

-- one size
pub size-at : (n : ℕ) (sizes : List ℤ) (e : ℕ) → AreElementSizes n sizes → e < length sizes
    → (pos 1 ≤ℤ get_or sizes e (pos 0)) × (get_or sizes e (pos 0) ≤ℤ pos (10 ^ 6))
size-at n sizes e are l = (
  are.positive e (pos 0) l,
  below-total sizes (pos (10 ^ 6))
      (λ k d lk. let one = are.positive k d lk in omega (arith, ints, one)) are.small e (pos 0) l,
)

-- p times one size fits
pub product-fits : (n : ℕ) (sizes : List ℤ) (e : ℕ) (p : ℤ) → IsAtMost (10 ^ 30) p
    → AreElementSizes n sizes → e < length sizes → FitsSigned w128 (p *ℤ get_or sizes e (pos 0))
product-fits n sizes e p h are l =
    let (one, most) = size-at n sizes e are l in
    let (low, high) = product-within (10 ^ 30) p (get_or sizes e (pos 0)) h one in
    omega (arith, ints, low, high, most)

-- the shift by one size more
pub sized-more : (sizes : List ℤ) (e : ℕ) (p : ℤ) → e < length sizes
    → sized_shift (take (e + 1) sizes)
    p ≡ (sized_shift (take e sizes) p ++ (p *ℤ get_or sizes e (pos 0)) ∷ [])
sized-more sizes e p l = ap (λ ws. sized_shift ws p) (take_more sizes e (pos 0) l)
    ∙ map-append (λ w. p *ℤ w) (take e sizes) (get_or sizes e (pos 0) ∷ [])
