-- Names of the elements of a ground: one that is none, and more of them than there are, among which
-- one stands twice.
use Rattle.std.proofs.Common.{◌≡◌, ◌≢◌, ◌⊎◌, inl, inr, ℕ, zero, suc, ◌<◌, ◌≤◌, Some, Contains, List, [], ◌∷◌, length, get_or, true, false, Bool, MatchBool, sym, ap, ◌∙◌, arith}
use Rattle.std.specs.List.{All, AllZip}
use Rattle.std.proofs.lemmas.Bool.{cases_lt}
use Rattle.std.proofs.lemmas.Option.{slice_get-get_or, slice_get_within, same_Some}
use Rattle.std.proofs.lemmas.List.Elements.{All-cons, All-nil}
use mathlib.Core.Logic.{⊎_elim}
use Rattle.sfm_base.proofs.Elements.{placed_few}
use Rattle.sfm_kind.specs.Names.{IsNewName}
use Rattle.sfm_lines.specs.Parts.{IsPairToken}
use Rattle.sfm_lines.specs.TermLines.{IsElement, StandsTwice}
use Rattle.sfm_lines.specs.ReadParts.{IsKnown}
use Rattle.sfm_lines.proofs.Repeats.{twice-at, twice-same}
use Rattle.sfm_lines.proofs.TermReasons.{elements-placed}
use Rattle.sfm_lines.proofs.WordLines.{pair-same}

-- a name that is none of the names names no element
pub new-unknown : (names : List (List ℕ)) (text : List ℕ) → IsNewName names text
    → IsKnown names text → ⊥
new-unknown names text new (place, here) =
    let within = slice_get_within names place text here in
    new place text within (same_Some (get_or names place text) text
    (sym (slice_get-get_or names place text within) ∙ here))

pub unknown-new : (names : List (List ℕ)) (text : List ℕ) → (IsKnown names text → ⊥)
    → IsNewName names text
unknown-new names text unknown =
    λ k d lt same. unknown (k, slice_get-get_or names k d lt ∙ ap (λ (t : List ℕ). Some t) same)

-- what is told of the one pair of a token is told of the token
pub pair-by : (token : List ℕ) (pair : List ℕ × List ℕ) → IsPairToken token pair
    → (P : List ℕ × List ℕ → Type 0) (b : Bool) → MatchBool b (P pair) (P pair → ⊥)
    → MatchBool b ((other : List ℕ × List ℕ) × IsPairToken token other × P other)
    (((other : List ℕ × List ℕ) × IsPairToken token other × P other) → ⊥)
pair-by token pair is P true h = (pair, is, h)
pair-by token pair is P false h = λ (other, g, p). let same : other ≡ pair = pair-same token other
    pair g is in h (rw same at p)

-- ---- a number stands twice among numbers, or does not

among-behind : (x y : ℕ) (xs : List ℕ) → (y ≢ x) → Contains xs x ⊎ All (λ z. z ≢ x) xs
    → Contains (y ∷ xs) x ⊎ All (λ z. z ≢ x) (y ∷ xs)
among-behind x y xs other (inl h) = inl (suc h.0, omega (arith, h.1), h.2)
among-behind x y xs other (inr h) = inr (All-cons (λ z. z ≢ x) y xs other h)

-- it is among them, or differs from each
among : (x : ℕ) (xs : List ℕ) → Contains xs x ⊎ All (λ y. y ≢ x) xs
among x [] = inr (All-nil (λ y. y ≢ x))
among x (y ∷ xs) = ⊎_elim
    (λ (lt : y < x). among-behind x y xs (λ e. absurd (omega (arith, lt, e))) (among x xs))
    (λ (le : x ≤ y). ⊎_elim
    (λ (lt : x < y). among-behind x y xs (λ e. absurd (omega (arith, lt, e))) (among x xs))
    (λ (ge : y ≤ x). inl (zero, omega arith, omega (arith, le, ge)))
    (cases_lt x y))
    (cases_lt y x)

twice-or-once : (xs : List ℕ) → StandsTwice xs ⊎ (StandsTwice xs → ⊥)
twice-or-once [] = inr (λ t. absurd (omega (arith, t.3)))
twice-or-once (x ∷ xs) = ⊎_elim
    (λ (h : Contains xs x). inl (twice-at (x ∷ xs) 0 (suc h.0) x (omega arith) (omega (arith, h.1))
    (sym h.2)))
    (λ (new : All (λ y. y ≢ x) xs). ⊎_elim
    (λ (t : StandsTwice xs). inl (twice-at (x ∷ xs) (suc t.0) (suc t.1) 0 (omega (arith, t.2))
    (omega (arith, t.3)) (twice-same xs 0 t)))
    (λ (once : StandsTwice xs → ⊥).
    inr (λ t. apart t.0 t.1 new once t.2 t.3 (twice-same (x ∷ xs) 0 t)))
    (twice-or-once xs))
    (among x xs)
  where
    apart : (i j : ℕ) → All (λ y. y ≢ x) xs → (StandsTwice xs → ⊥) → i < j → j < length (x ∷ xs)
        → get_or (x ∷ xs) i 0 ≡ get_or (x ∷ xs) j 0 → ⊥
    apart i zero new once lt within e = absurd (omega (arith, lt))
    apart zero (suc j) new once lt within e = new j 0 (omega (arith, within)) (sym e)
    apart (suc i) (suc j) new once lt within e =
        once (twice-at xs i j 0 (omega (arith, lt)) (omega (arith, within)) e)

-- more elements than there are names
pub many-twice : (names texts : List (List ℕ)) (places : List ℕ) → length names ≤ 256
    → AllZip (IsElement names) texts places → 256 < length places → StandsTwice places
many-twice names texts places few known many = ⊎_elim
    (λ (t : StandsTwice places). t)
    (λ (once : StandsTwice places → ⊥).
    absurd (omega (
      arith,
      many,
      placed_few 256 places
          (elements-placed names texts places few known once),
    )))
    (twice-or-once places)
