-- Cutting at a byte: what is found, and what is left behind it.
use Rattle.std.proofs.Common.{take, drop, cond, sym, ◌≡◌, ℕ, ◌+◌, ◌-◌, ◌<◌, ◌≤◌, Bool, true, false, List, [], ◌∷◌, length, get_or, not, refl, arith}
use Prim.Native.Nat.{zero, suc}
use Rattle.std.specs.Prelude.{◌==◌}
use Rattle.std.specs.List.{All, position_or_len, slice_split, onto_first}
use Rattle.std.proofs.lemmas.Bool.{eqb-true}
use Rattle.std.proofs.lemmas.List.{take_all, length-drop}

-- where nothing is found, the list is the one piece
pub split-none : (p : ℕ → Bool) (xs : List ℕ) → length xs ≤ position_or_len p xs
    → slice_split p xs ≡ xs ∷ []
split-none p [] h = refl
split-none p (x ∷ xs) h =
    elim (p x) as (λ b. (length (x ∷ xs) ≤ cond (not b) (1 + position_or_len p xs) 0)
    → cond b ([] ∷ slice_split p xs) (onto_first x (slice_split p xs)) ≡ (x ∷ xs) ∷ [])
    [ true ↦ λ k. absurd (omega arith) | false ↦ λ k. rw (split-none p xs (omega arith)) refl ]
    h

-- all that is left of a text
pub rest-is : (text : List ℕ) (at : ℕ) → at ≤ length text
    → take (length text - at) (drop at text) ≡ drop at text
rest-is text at h = take_all (length text - at) (drop at text) (omega (arith, length-drop at text))

-- what `!is_empty()` says
pub not_empty : (xs : List ℕ) → false ≡ (length xs == 0) → 0 < length xs
not_empty xs h = nat_lt_of (length xs) h
  where
    nat_lt_of : (n : ℕ) → false ≡ (n == 0) → 0 < n
    nat_lt_of zero h = cc
    nat_lt_of (suc n) h = omega arith

-- what `is_empty` says of a count
pub none-count : (n : ℕ) → true ≡ (n == 0) → n ≡ 0
none-count n h = eqb-true n 0 (sym h)

-- where nothing passes, the length
pub place-none : (p : ℕ → Bool) (xs : List ℕ) (i : ℕ) → length xs ≤ i
    → All (λ c. p c ≡ false) (take i xs) → length xs ≡ position_or_len p xs
place-none p xs i ge none = all_of xs (rw (take_all i xs ge) at none)
  where
    all_of : (xs : List ℕ) → All (λ c. p c ≡ false) xs → length xs ≡ position_or_len p xs
    all_of [] none = refl
    all_of (x ∷ xs) none = let no : p x ≡ false = none 0 x (omega arith) in let rest = all_of xs
        (λ k d lt. none (suc k) d (omega (arith, lt))) in rw no (omega (arith, rest))

-- the place of what passes behind such as do not
pub place-here : (p : ℕ → Bool) (xs : List ℕ) (i d : ℕ) → i < length xs
    → All (λ c. p c ≡ false) (take i xs) → p (get_or xs i d) ≡ true → i ≡ position_or_len p xs
place-here p [] i d lt none is = absurd (omega (arith, lt))
place-here p (x ∷ xs) zero d lt none is = rw is refl
place-here p (x ∷ xs) (suc i) d lt none is =
    let no : p x ≡ false = none 0 x (omega arith) in
    let rest = place-here p xs i d (omega (arith, lt)) (λ k e m. none (suc k) e (omega (arith, m)))
    is in
    rw no (omega (arith, rest))
