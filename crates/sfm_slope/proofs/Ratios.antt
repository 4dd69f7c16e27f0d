-- The slope at which two sets are worth as much, and its bounds.
use Rattle.std.proofs.Common.{◌≡◌, ℕ, ◌^◌, ◌≤◌, Bool, List, length, ℤ, pos, unsigned_abs, ◌-ℤ◌, ◌≤ℤ◌, ◌<ℤ◌, sym, ap, ◌∙◌, ⊎_elim, arith}
use Rattle.std.proofs.lemmas.Int.{ints}
use Rattle.sfm_spec.specs.Sets.{size, sum_over}
use Rattle.sfm_spec.specs.Slopes.{IsLowest, IsSameSlope}
use Rattle.sfm_spec.specs.Bounds.{IsAtMost, IsGiven, total_of}
use Rattle.sfm_spec.specs.Families.{Meaning, AreTerms, sum_at}
use Rattle.sfm_spec.specs.Search.{IsEven}
use Rattle.sfm_spec.proofs.Sizes.{AreSizes, weight_grows}
use Rattle.sfm_spec.proofs.Nest.{same_by_ratio}
use Rattle.sfm_spec.proofs.Breakpoints.{abs_difference, even_bounds, weight_difference}
use Rattle.sfm_base.proofs.Slopes.{abs-at_most, at_most_from_abs}
use Rattle.sfm_slope.specs.declared.worth.Worth.{Worth}
use Rattle.sfm_slope.specs.Gaps.{IsGap}
use Rattle.sfm_slope.specs.Worths.{IsWorth}

-- the slope p/q at which two sets are worth as much, in lowest terms
pub record IsRatio (terms : List Meaning) (n : ℕ) (sizes : List ℤ) (a t : List Bool)
    (p q : ℤ) : Type 0 where
  pub even : IsEven terms sizes p q a t
  pub positive : pos 1 ≤ℤ q
  pub few : q ≤ℤ total_of sizes
  pub small : IsAtMost (10 ^ 19) p

-- the rise of the sum over the rise of the size is that slope
pub ratio_between : (terms : List Meaning) (n : ℕ) (sizes : List ℤ) (a t : List Bool) (p q : ℤ)
    → AreTerms n terms → length sizes ≡ n → AreSizes sizes → length a ≡ n → IsGap terms n sizes a t
    → IsGiven (sum_at terms a) → IsGiven (sum_at terms t) → IsLowest p q
    → IsSameSlope p q (sum_at terms t -ℤ sum_at terms a) (sum_over t sizes -ℤ sum_over a sizes)
    → IsRatio terms n sizes a t p q
ratio_between terms n sizes a t p q fit sized positive la gap ga gt lowest same =
    record { even = even; positive = lowest.positive; few = few; small = small } where
      even : IsEven terms sizes p q a t
      even = same_by_ratio terms sizes p q a t same

      bounds : (q ≤ℤ (sum_over t sizes -ℤ sum_over a sizes))
          × (unsigned_abs p ≤ unsigned_abs (sum_at terms t -ℤ sum_at terms a))
      bounds = even_bounds terms n sizes fit sized positive p q a t lowest even la gap.places
          gap.within
          gap.larger

      few : q ≤ℤ total_of sizes
      few =
          let b = bounds.0 in
          let d = weight_difference terms n sizes fit sized positive a t la gap.places in
          omega (arith, ints, b, d)

      small : IsAtMost (10 ^ 19) p
      small =
          let b = bounds.1 in
          let d = abs_difference (sum_at terms t) (sum_at terms a) in
          let x = abs-at_most (10 ^ 18) (sum_at terms t) gt in
          let y = abs-at_most (10 ^ 18) (sum_at terms a) ga in
          at_most_from_abs (10 ^ 19) p (omega (arith, b, d, x, y))

-- the same by what is kept of both sets
pub ratio_of_worths : (terms : List Meaning) (n : ℕ) (sizes : List ℤ) (low high : Worth) (p q : ℤ)
    → AreTerms n terms → length sizes ≡ n → AreSizes sizes → length low.set ≡ n
    → IsWorth terms sizes low → IsWorth terms sizes high → IsGap terms n sizes low.set high.set
    → IsLowest p q → IsSameSlope (high.sum -ℤ low.sum) (high.weight -ℤ low.weight) p q
    → IsRatio terms n sizes low.set high.set p q
ratio_of_worths terms n sizes low high p q fit sized positive la wl wh gap lowest same =
    ratio_between terms n sizes low.set high.set p q fit sized positive la gap
    (rw (← wl.sum) wl.small) (rw (← wh.sum) wh.small) lowest
    (rw (← wl.sum, ← wh.sum, ← wl.weight, ← wh.weight) (sym same))

-- the larger of two sets weighs more
pub gap_heavier : (terms : List Meaning) (n : ℕ) (sizes : List ℤ) (low high : Worth)
    → length sizes ≡ n → AreSizes sizes → length low.set ≡ n → IsWorth terms sizes low
    → IsWorth terms sizes high → IsGap terms n sizes low.set high.set
    → low.weight <ℤ high.weight
gap_heavier terms n sizes low high sized positive la wl wh gap =
    let places = la ∙ sym gap.places in
    let counts = gap.places ∙ sym sized in
    let grows = weight_grows low.set high.set sizes places counts positive gap.within in
    let larger = gap.larger in
    rw (wl.weight, wh.weight)
    (⊎_elim (λ e. absurd (let same = ap size e in omega (arith, larger, same))) (λ l. l) grows)
