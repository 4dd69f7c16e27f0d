-- The places of the first terms, one after another, and what stands beside them.
use Rattle.std.proofs.Common.{◌≡◌, inl, inr, ℕ, zero, suc, ◌+◌, ◌*◌, ◌<◌, ◌≤◌, List, [], ◌∷◌, length, get_or, map, take, ℤ, pos, ◌+ℤ◌, ◌*ℤ◌, ◌≤ℤ◌, ◌^◌, FitsSigned, arith}
use Rattle.std.proofs.lemmas.Int.{ints}
use Rattle.std.proofs.lemmas.List.Sums.{sum_by-cons}
use mir.Syntax.{w128}
use Rattle.sfm_kind.specs.declared.kind.Kind.{Kind}
use Rattle.sfm_kind.specs.Kinds.{kind_places, kind_size}
use Rattle.sfm_kind.specs.Instance.{support_of}
use Rattle.sfm_kind.specs.Limits.{total_size_of}
use Rattle.sfm_due.proofs.Summing.{IsTurn, first-more}
use Rattle.sfm_pair.specs.Passing.{IsOver}

support-cons : (term : Kind) (terms : List Kind)
    → support_of (term ∷ terms) ≡ length (kind_places term) + support_of terms
support-cons term terms = sum_by-cons (λ (n : ℕ). n) (length (kind_places term))
    (map length (map kind_places terms))

-- one term more
support-suc : (terms : List Kind) (i : ℕ) (term : Kind) → i < length terms
    → support_of (take (suc i) terms) ≡ support_of (take i terms) + length
    (kind_places (get_or terms i term))
support-suc [] i term l = absurd (omega arith)
support-suc (t ∷ terms) zero term l = omega (arith, support-cons t [])
support-suc (t ∷ terms) (suc i) term l =
    omega (
      arith,
      support-cons t (take (suc i) terms),
      support-cons t (take i terms),
      support-suc terms i term (omega (arith, l)),
    )

support-next : (terms : List Kind) (i : ℕ) (term : Kind) → i < length terms
    → support_of (take (i + 1) terms) ≡ support_of (take i terms) + length
    (kind_places (get_or terms i term))
support-next terms i term l =
    let one : i + 1 ≡ suc i = omega arith in
    rw one (support-suc terms i term l)

-- more of the first terms have no fewer places
support-more : (terms : List Kind) (i j : ℕ) → i ≤ j
    → support_of (take i terms) ≤ support_of (take j terms)
support-more terms zero j le = omega arith
support-more terms (suc i) zero le = absurd (omega (arith, le))
support-more [] (suc i) (suc j) le = omega arith
support-more (t ∷ terms) (suc i) (suc j) le =
    omega (
      arith,
      support-cons t (take i terms),
      support-cons t (take j terms),
      support-more terms i j (omega (arith, le)),
    )

-- all of the terms are the first of them
support-below : (terms : List Kind) (i : ℕ) → support_of (take i terms) ≤ support_of terms
support-below terms zero = omega arith
support-below [] (suc i) = omega arith
support-below (t ∷ terms) (suc i) =
    omega (arith, support-cons t (take i terms), support-cons t terms, support-below terms i)

-- where the first terms are not too much beside others, fewer of them are not
pub not-over : (places : ℕ) (size : ℤ) (terms : List Kind) (i j : ℕ)
    → places + support_of (take i terms) ≤ 16384
    → (size +ℤ pos 2 *ℤ total_size_of (take i terms)) ≤ℤ pos (10 ^ 18) → j < i
    → IsOver places size terms j → ⊥
not-over places size terms i j few small l (inl over) =
    omega (arith, over, few, support-more terms (j + 1) i (omega (arith, l)))
not-over places size terms i j few small l (inr over) =
    omega (arith, ints, over, small, first-more terms (j + 1) i (omega (arith, l)))

-- the places of a turn: what is added, and how much it can be
pub record IsStep (terms : List Kind) (i : ℕ) (term : Kind) : Type 0 where
  pub next : support_of (take (i + 1) terms) ≡ support_of (take i terms) + length (kind_places term)
  pub high : support_of (take (i + 1) terms) ≤ support_of terms

pub step : (terms : List Kind) (i : ℕ) (term : Kind) → term ≡ get_or terms i term → i < length terms
    → IsStep terms i term
step terms i term is l = record {
  next = let n = support-next terms i term l in rw (← is) at n;
  high = support-below terms (i + 1);
}

-- so many more places are those of one term more
pub add-places : (terms : List Kind) (i : ℕ) (term : Kind) (places all count : ℕ)
    → IsStep terms i term
    → count ≡ length (kind_places term) → all ≡ places + support_of (take i terms)
    → all + count ≡ places + support_of (take (i + 1) terms)
add-places terms i term places all count s is so_far = omega (arith, s.next, is, so_far)

-- twice the size of one term more fits beside what is so far, and makes what is then
pub record IsAdded (terms : List Kind) (i : ℕ) (size all more : ℤ) : Type 0 where
  pub fits : FitsSigned w128 more
  pub double : FitsSigned w128 (pos 2 *ℤ more)
  pub sum : FitsSigned w128 (all +ℤ pos 2 *ℤ more)
  pub is : (all +ℤ pos 2 *ℤ more) ≡ (size +ℤ pos 2 *ℤ total_size_of (take (i + 1) terms))

pub add-size : (terms : List Kind) (i : ℕ) (term : Kind) (size all more : ℤ) → IsTurn terms i term
    → more ≡ kind_size term → all ≡ (size +ℤ pos 2 *ℤ total_size_of (take i terms)) → pos 0 ≤ℤ size
    → all ≤ℤ pos (10 ^ 18) → IsAdded terms i size all more
add-size terms i term size all more t is so_far low small = record {
  fits = omega (arith, ints, t.next, t.low, t.more, t.high, is);
  double = omega (arith, ints, t.next, t.low, t.more, t.high, is);
  sum = omega (arith, ints, t.next, t.low, t.more, t.high, is, so_far, low, small);
  is = omega (arith, ints, t.next, is, so_far);
}
