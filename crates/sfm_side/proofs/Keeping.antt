-- The sizes that are known as the numbers that are kept: what a number that is put says, and what
-- they count together.
use Rattle.std.proofs.Common.{◌≡◌, ◌≢◌, ◌⊎◌, inl, inr, ℕ, zero, suc, ◌+◌, ◌^◌, ◌<◌, Bool, true, false, cond, List, [], ◌∷◌, length, get_or, drop, map, set, slice_get, Option, Some, None, ℤ, pos, ◌+ℤ◌, ◌≤ℤ◌, ◌<ℤ◌, to_z, of_z, refl, ap, ◌∙◌, arith}
use Rattle.std.specs.Prelude.{unwrap_or, option_map, replicate}
use Rattle.std.specs.Int.{w128}
use Rattle.std.specs.Int.Signed.{le_z}
use Rattle.std.specs.List.{All}
use Rattle.std.proofs.lemmas.Int.{ints}
use Rattle.std.proofs.lemmas.Option.{slice_get-get_or, slice_get-map}
use Rattle.std.proofs.lemmas.List.{map-set, length-set, length-replicate, drop_more, get_or-set_same, get_or-set_other, length-map}
use Rattle.std.proofs.lemmas.List.Elements.{All-cons, All-nil}
use Rattle.sfm_spec.specs.Bounds.{total_of}
use Rattle.sfm_sizes.specs.Sizes.{AreElementSizes}
use Rattle.sfm_side.specs.Sizes.{IsSize, sizes_of}
use Rattle.sfm_side.specs.SizeLines.{size_at, given_of, count_of, AreKept}
use Rattle.sfm_side.proofs.Putting.{same-or-other}

-- a number from 1 on is a size, and another is none
pub size-some : (w : ℤ) → pos 1 ≤ℤ w → size_at w ≡ Some w
size-some w low = at (le_z (pos 1) w) refl
  where
    at : (b : Bool) → le_z (pos 1) w ≡ b → cond b (Some w) None ≡ Some w
    at true e = refl
    at false e = absurd (omega (arith, ints, e, low))

pub size-none : (w : ℤ) → w ≤ℤ pos 0 → size_at w ≡ None
size-none w high = at (le_z (pos 1) w) refl
  where
    at : (b : Bool) → le_z (pos 1) w ≡ b → cond b (Some w) None ≡ None
    at true e = absurd (omega (arith, ints, e, high))
    at false e = refl

-- what an element counts is a size
pub count-low : (w : ℤ) → pos 1 ≤ℤ count_of w
count-low w = at (le_z (pos 1) w) refl
  where
    at : (b : Bool) → le_z (pos 1) w ≡ b → pos 1 ≤ℤ unwrap_or (cond b (Some w) None) (pos 1)
    at true e = omega (arith, ints, e)
    at false e = omega (arith, ints)

pub count-high : (w : ℤ) → w ≤ℤ pos (10 ^ 6) → count_of w ≤ℤ pos (10 ^ 6)
count-high w high = at (le_z (pos 1) w)
  where
    at : (b : Bool) → unwrap_or (cond b (Some w) None) (pos 1) ≤ℤ pos (10 ^ 6)
    at true = high
    at false = omega (arith, ints)

pub counts-are : (kept : List ℤ) → map count_of kept ≡ sizes_of (given_of kept)
counts-are [] = refl
counts-are (w ∷ kept) = ap (λ (l : List ℤ). count_of w ∷ l) (counts-are kept)

pub counts-drop : (kept : List ℤ) (i : ℕ) → i < length kept → total_of (map count_of
    (drop i kept)) ≡ (count_of (get_or kept i (pos 0)) +ℤ total_of (map count_of (drop
    (i + 1) kept)))
counts-drop kept i lt = rw (drop_more kept i (pos 0) lt) refl

-- what is known of an element that was named, and of one that was not
pub given-some : (kept : List ℤ) (e : ℕ) → e < length kept → pos 0 <ℤ get_or kept e (pos 0)
    → slice_get (given_of kept) e ≡ Some (Some (get_or kept e (pos 0)))
given-some kept e lt much = slice_get-map size_at kept e
    ∙ (ap (option_map size_at) (slice_get-get_or kept e (pos 0) lt)
    ∙ ap Some (size-some (get_or kept e (pos 0)) (omega (arith, ints, much))))

pub given-none : (kept : List ℤ) (e : ℕ) → e < length kept → get_or kept e (pos 0) ≤ℤ pos 0
    → slice_get (given_of kept) e ≡ Some None
given-none kept e lt none = slice_get-map size_at kept e
    ∙ (ap (option_map size_at) (slice_get-get_or kept e (pos 0) lt)
    ∙ ap Some (size-none (get_or kept e (pos 0)) none))

-- a size as it is put
pub size-kept : (text : List ℕ) (v : ℤ) → IsSize text v → to_z w128 (of_z w128 v) ≡ v
size-kept text v h = omega (arith, ints, h.1, h.2)

pub set-given : (kept : List ℤ) (e : ℕ) (v w : ℤ) → w ≡ v → pos 1 ≤ℤ v
    → given_of (set kept e w) ≡ set (given_of kept) e (Some v)
set-given kept e v w is low = ap (λ (z : ℤ). given_of (set kept e z)) is
    ∙ (map-set size_at kept e v ∙ ap (λ (o : Option ℤ). set (given_of kept) e o) (size-some v low))

pub set-kept : (n : ℕ) (kept : List ℤ) (e : ℕ) (v w : ℤ) → AreKept n kept → w ≡ v → pos 1 ≤ℤ v
    → v ≤ℤ pos (10 ^ 6) → AreKept n (set kept e w)
set-kept n kept e v w h is low high = record {
  places = length-set kept e w ∙ h.places;
  each = λ k d lt. at k d (omega (arith, lt, length-set kept e w)) (same-or-other e k);
}
  where
    at : (k : ℕ) (d : ℤ) → k < length kept → (k ≡ e) ⊎ (k ≢ e)
        → (pos 0 ≤ℤ get_or (set kept e w) k d) × (get_or (set kept e w) k d ≤ℤ pos (10 ^ 6))
    at k d lt (inl same) =
        let there : get_or (set kept e w) k d ≡ w = ap (λ i. get_or (set kept e w) i d) same
        ∙ get_or-set_same kept e w d (omega (arith, lt, same)) in
        (omega (arith, ints, there, is, low), omega (arith, ints, there, is, high))
    at k d lt (inr other) = let there = get_or-set_other kept e k w d other in let old = h.each k d
        lt in rw there old

-- before the first line nothing is known
pub none-given : (n : ℕ) → given_of (replicate n (pos 0)) ≡ replicate n None
none-given zero = refl
none-given (suc n) = ap (λ (l : List (Option ℤ)). None ∷ l) (none-given n)

pub none-kept : (n : ℕ) → AreKept n (replicate n (pos 0))
none-kept n = record { places = length-replicate n (pos 0); each = each n }
  where
    each : (n : ℕ) → All (λ w. (pos 0 ≤ℤ w) × (w ≤ℤ pos (10 ^ 6))) (replicate n (pos 0))
    each zero = All-nil (λ w. (pos 0 ≤ℤ w) × (w ≤ℤ pos (10 ^ 6)))
    each (suc n) = All-cons (λ w. (pos 0 ≤ℤ w) × (w ≤ℤ pos (10 ^ 6))) (pos 0) (replicate n (pos 0))
        (omega (arith, ints), omega (arith, ints)) (each n)

pub none-total : (n : ℕ) → total_of (map count_of (replicate n (pos 0))) ≡ pos n
none-total zero = refl
none-total (suc n) = omega (arith, ints, none-total n)

-- what is counted in the end
pub counts-sizes : (n : ℕ) (kept : List ℤ) → length kept ≡ n
    → total_of (map count_of kept) ≤ℤ pos (10 ^ 6) → AreElementSizes n (map count_of kept)
counts-sizes n kept places small = record {
  places = length-map kept count_of ∙ places;
  positive = positive kept;
  small = small;
}
  where
    positive : (kept : List ℤ) → All (λ w. pos 1 ≤ℤ w) (map count_of kept)
    positive [] = All-nil (λ w. pos 1 ≤ℤ w)
    positive (w ∷ kept) = All-cons (λ w. pos 1 ≤ℤ w) (count_of w) (map count_of kept) (count-low w)
        (positive kept)
