-- The rows of two sums, one behind the other: the first that is no base of its term.
use Rattle.std.proofs.Common.{◌≡◌, ℕ, ◌+◌, ◌-◌, ◌<◌, List, [], ◌++◌, length, ℤ, pos, ⊎_elim, refl, sym, ap, ◌∙◌, arith, subst}
use Rattle.std.proofs.lemmas.Bool.{cases_lt}
use Rattle.std.proofs.lemmas.List.{get_or_append_left, get_or-append-add, length-append}
use Rattle.sfm_spec.specs.Terms.{times, IsBase}
use Rattle.sfm_spec.specs.Families.{Meaning}
use Rattle.sfm_spec.specs.Walks.{base_at, no_term, term_at}
use Rattle.sfm_check.specs.Findings.{AreBasesIn, IsFirstNoBaseIn}
use Rattle.sfm_meet.specs.Met.{MetAnswer}
use Rattle.sfm_check.specs.Truth.{Question}
use Rattle.sfm_met.specs.MetVerdict.{IsFirstNoMetBase, IsMetBaseAt}

abbrev IsBaseOf : Meaning → List ℤ → Type 0
IsBaseOf term x = IsBase (times (pos 1) term.value) x

module _ (left right : Question) (a : MetAnswer) (count : length a.left ≡ length left.meant) where
  -- a row of the left sum is the same among all
  left_term : (i : ℕ) → i < length left.meant
      → term_at (left.meant ++ right.meant) i ≡ term_at left.meant i
  left_term i l = get_or_append_left left.meant right.meant no_term i l

  left_row : (i : ℕ) → i < length left.meant → base_at (a.left ++ a.right) i ≡ base_at a.left i
  left_row i l = get_or_append_left a.left a.right [] i (omega (arith, l, count))

  at_left : (i : ℕ) → i < length left.meant → IsBaseOf (term_at left.meant i) (base_at a.left i)
      → IsMetBaseAt left right a i
  at_left i l h = subst (λ (t : Meaning). IsBaseOf t (base_at (a.left ++ a.right) i))
      (sym (left_term i l)) (subst (λ (x : List ℤ). IsBaseOf (term_at left.meant i) x)
      (sym (left_row i l)) h)

  of_left : (i : ℕ) → i < length left.meant → IsMetBaseAt left right a i
      → IsBaseOf (term_at left.meant i) (base_at a.left i)
  of_left i l h = subst (λ (x : List ℤ). IsBaseOf (term_at left.meant i) x) (left_row i l)
      (subst (λ (t : Meaning). IsBaseOf t (base_at (a.left ++ a.right) i)) (left_term i l) h)

  -- a row of the right sum stands behind those of the left
  right_term : (j : ℕ) → term_at (left.meant ++ right.meant) (length left.meant + j) ≡ term_at
      right.meant j
  right_term j = get_or-append-add left.meant right.meant j no_term

  right_row : (j : ℕ) → base_at (a.left ++ a.right) (length left.meant + j) ≡ base_at a.right j
  right_row j = ap (λ (n : ℕ). base_at (a.left ++ a.right) (n + j)) (sym count)
      ∙ get_or-append-add a.left a.right j []

  at_right : (j : ℕ) → IsBaseOf (term_at right.meant j) (base_at a.right j)
      → IsMetBaseAt left right a (length left.meant + j)
  at_right j h = subst (λ (t : Meaning).
      IsBaseOf t (base_at (a.left ++ a.right) (length left.meant + j))) (sym (right_term j))
      (subst (λ (x : List ℤ). IsBaseOf (term_at right.meant j) x) (sym (right_row j)) h)

  of_right : (j : ℕ) → IsMetBaseAt left right a (length left.meant + j)
      → IsBaseOf (term_at right.meant j) (base_at a.right j)
  of_right j h = subst (λ (x : List ℤ). IsBaseOf (term_at right.meant j) x) (right_row j)
      (subst (λ (t : Meaning). IsBaseOf t (base_at (a.left ++ a.right) (length left.meant + j)))
      (right_term j) h)

  pub first_left : (i : ℕ) → IsFirstNoBaseIn left.meant (pos 1) a.left i
      → IsFirstNoMetBase left right a (i + 5)
  first_left i f = (
    i,
    omega (arith, f.is_term, length-append left.meant right.meant),
    refl,
    (λ b. f.no_base (of_left i f.is_term b)),
    (λ j l. at_left j (omega (arith, l, f.is_term)) (f.before j l)),
  )

  pub first_right : (i line : ℕ) → line ≡ length left.meant + i + 5
      → AreBasesIn left.meant (pos 1) a.left → IsFirstNoBaseIn right.meant (pos 1) a.right i
      → IsFirstNoMetBase left right a line
  first_right i line line_is good f = (
    length left.meant + i,
    omega (arith, f.is_term, length-append left.meant right.meant),
    line_is,
    (λ b. f.no_base (of_right i b)),
    (λ j l. ⊎_elim
        (λ less. at_left j less (good j less))
        (λ ge. behind j (j - length left.meant) (omega (arith, ge)) (omega (arith, ge, l)))
        (cases_lt j (length left.meant))),
  ) where
    behind : (j k : ℕ) → length left.meant + k ≡ j → k < i → IsMetBaseAt left right a j
    behind j k e l = subst (IsMetBaseAt left right a) e (at_right k (f.before k l))
