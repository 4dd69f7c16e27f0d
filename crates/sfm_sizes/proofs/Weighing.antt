-- The weight of a set, one place after another, and its bounds; sizes where each element counts
-- one.
use Rattle.std.proofs.Common.{◌≡◌, ℕ, ◌+◌, ◌<◌, ◌≤◌, ◌^◌, Bool, true, false, List, [], ◌∷◌, length, get_or, drop, ℤ, pos, ◌+ℤ◌, ◌≤ℤ◌, if◌then◌else◌, refl, arith}
use Rattle.std.proofs.lemmas.Int.{ints}
use Rattle.std.proofs.lemmas.List.{drop_more}
use Rattle.std.proofs.lemmas.List.Elements.{All-drop, All-head, All-tail}
use Rattle.sfm_spec.specs.Sets.{sum_over}
use Rattle.sfm_spec.specs.Bounds.{total_of}
use Rattle.sfm_spec.specs.Laws.{ones}
use Rattle.sfm_spec.proofs.Ones.{ones-places, ones-sizes, total-ones}
use Rattle.sfm_spec.proofs.Sizes.{AreSizes}
use Rattle.sfm_sizes.specs.Sizes.{AreElementSizes}

-- a set weighs nothing at least, and all sizes together at most
pub weight-bounds : (s : List Bool) (sizes : List ℤ) → AreSizes sizes
    → (pos 0 ≤ℤ sum_over s sizes) × (sum_over s sizes ≤ℤ total_of sizes)
weight-bounds [] [] are = (omega (arith, ints), omega (arith, ints))
weight-bounds (b ∷ s) [] are = (omega (arith, ints), omega (arith, ints))
weight-bounds [] (w ∷ sizes) are =
    let r = weight-bounds [] sizes (All-tail (λ v. pos 1 ≤ℤ v) w sizes are) in
    let one = All-head (λ v. pos 1 ≤ℤ v) w sizes are in
    (omega (arith, ints), omega (arith, ints, r.0, r.1, one))
weight-bounds (b ∷ s) (w ∷ sizes) are =
    let r = weight-bounds s sizes (All-tail (λ v. pos 1 ≤ℤ v) w sizes are) in
    at b r (All-head (λ v. pos 1 ≤ℤ v) w sizes are) where
      at : (b : Bool) → (pos 0 ≤ℤ sum_over s sizes) × (sum_over s sizes ≤ℤ total_of sizes)
          → pos 1 ≤ℤ w
          → let more = (if b then w else pos 0) +ℤ sum_over s sizes in
          (pos 0 ≤ℤ more) × (more ≤ℤ (w +ℤ total_of sizes))
      at true r one = (omega (arith, ints, r.0, one), omega (arith, ints, r.1))
      at false r one = (omega (arith, ints, r.0), omega (arith, ints, r.1, one))

-- what is left weighs the next place and what is left behind it
pub weight-drop : (s : List Bool) (sizes : List ℤ) (e : ℕ) → e < length s → e < length sizes
    → sum_over (drop e s) (drop e sizes)
    ≡ ((if get_or s e false then get_or sizes e (pos 0) else pos 0)
    +ℤ sum_over (drop (e + 1) s) (drop (e + 1) sizes))
weight-drop s sizes e ls lw = rw (drop_more s e false ls, drop_more sizes e (pos 0) lw) refl

-- one place more: what is added, and that it is not below 0 and at most all sizes
pub weight-step : (n : ℕ) (s : List Bool) (sizes : List ℤ) (e : ℕ) (weight : ℤ)
    → AreElementSizes n sizes → length sizes ≡ length s → e < length sizes → pos 0 ≤ℤ weight
    → (weight +ℤ sum_over (drop e s) (drop e sizes)) ≡ sum_over s sizes
    → let next = weight +ℤ (if get_or s e false then get_or sizes e (pos 0) else pos 0) in
    ((next +ℤ sum_over (drop (e + 1) s) (drop (e + 1) sizes)) ≡ sum_over s sizes)
    × (pos 0 ≤ℤ next) × (next ≤ℤ pos (10 ^ 6))
weight-step n s sizes e weight are same l low so_far =
    let one = are.positive e (pos 0) l in
    let step = weight-drop s sizes e (omega (arith, l, same)) l in
    let rest = weight-bounds (drop (e + 1) s) (drop (e + 1) sizes)
    (All-drop (λ w. pos 1 ≤ℤ w) (e + 1) sizes are.positive) in
    let all = weight-bounds s sizes are.positive in
    let most = are.small in
    by (get_or s e false) one low so_far step rest.0 all.1 most where
      by : (b : Bool) → {w r a total weight left : ℤ} → pos 1 ≤ℤ w → pos 0 ≤ℤ weight
          → (weight +ℤ left) ≡ a → left ≡ ((if b then w else pos 0) +ℤ r) → pos 0 ≤ℤ r → a ≤ℤ total
          → total ≤ℤ pos (10 ^ 6)
          → let next = weight +ℤ (if b then w else pos 0) in
          ((next +ℤ r) ≡ a) × (pos 0 ≤ℤ next) × (next ≤ℤ pos (10 ^ 6))
      by true one low so step rest all most = (
        omega (arith, ints, so, step),
        omega (arith, ints, one, low),
        omega (arith, ints, so, step, rest, all, most),
      )
      by false one low so step rest all most = (
        omega (arith, ints, so, step),
        omega (arith, ints, low),
        omega (arith, ints, so, step, rest, all, most),
      )

-- where each element counts one
pub ones-are-sizes : (n : ℕ) → n ≤ 256 → AreElementSizes n (ones n)
ones-are-sizes n few = record {
  places = ones-places n;
  positive = ones-sizes n;
  small = let t = total-ones n in omega (arith, ints, t, few);
}
