-- The sizes of the first terms, one after another, by the kinds and by what they mean.
use Rattle.std.proofs.Common.{◌≡◌, ℕ, zero, suc, ◌+◌, ◌<◌, ◌≤◌, List, [], ◌∷◌, length, get_or, take, pos, ◌+ℤ◌, ◌≤ℤ◌, ◌^◌, refl, arith}
use Rattle.std.specs.List.{AllZip}
use Rattle.std.proofs.lemmas.Int.{ints}
use Rattle.sfm_spec.specs.Families.{Meaning}
use Rattle.sfm_kind.specs.declared.kind.Kind.{Kind}
use Rattle.sfm_kind.specs.Kinds.{kind_size}
use Rattle.sfm_kind.specs.Limits.{total_size_of}
use Rattle.sfm_kind.specs.Meanings.{IsMeaningOf, total_by}
use Rattle.sfm_kind.specs.Instance.{InstanceData}
use Rattle.sfm_kind.proofs.Bounds.{kind_size-low, total_size-low}
use Rattle.sfm_kind.proofs.Meanings.{kind-size, kinds-mean, total-size}
use Rattle.sfm_text.specs.GoodText.{IsTextOf}
use Rattle.sfm_text.specs.Numbered.{AreNumbersOf}
use Rattle.sfm_due.specs.Level.{level_limit}
use Rattle.sfm_due.specs.Owing.{IsSmallEnough, IsTooLarge}
use Rattle.sfm_due.specs.Meanings.{meanings_of, question_of}
use Rattle.sfm_due.specs.Sums.{PassesAt}

-- one term more
size-suc : (terms : List Kind) (i : ℕ) (term : Kind) → i < length terms
    → total_size_of (take (suc i) terms)
    ≡ (total_size_of (take i terms) +ℤ kind_size (get_or terms i term))
size-suc [] i term l = absurd (omega arith)
size-suc (t ∷ terms) zero term l = omega (arith, ints)
size-suc (t ∷ terms) (suc i) term l = omega (arith, ints, size-suc terms i term (omega (arith, l)))

pub size-next : (terms : List Kind) (i : ℕ) (term : Kind) → i < length terms
    → total_size_of (take (i + 1) terms)
    ≡ (total_size_of (take i terms) +ℤ kind_size (get_or terms i term))
size-next terms i term l =
    let one : i + 1 ≡ suc i = omega arith in
    rw one (size-suc terms i term l)

-- the first terms have no more than all
first-below : (terms : List Kind) (i : ℕ) → total_size_of (take i terms) ≤ℤ total_size_of terms
first-below terms zero = total_size-low terms
first-below [] (suc i) = omega (arith, ints)
first-below (t ∷ terms) (suc i) = omega (arith, ints, first-below terms i)

-- the numbers of a turn: what is added, and how little and how much it can be
pub record IsTurn (terms : List Kind) (i : ℕ) (term : Kind) : Type 0 where
  pub next : total_size_of (take (i + 1) terms) ≡ (total_size_of (take i terms) +ℤ kind_size term)
  pub low : pos 0 ≤ℤ total_size_of (take i terms)
  pub more : pos 0 ≤ℤ kind_size term
  pub high : total_size_of (take (i + 1) terms) ≤ℤ pos (10 ^ 18)

pub turn : (terms : List Kind) (i : ℕ) (term : Kind) → term ≡ get_or terms i term
    → i < length terms → total_size_of terms ≤ℤ pos (10 ^ 18) → IsTurn terms i term
turn terms i term is l small = record {
  next = let n = size-next terms i term l in rw (← is) at n;
  low = total_size-low (take i terms);
  more = kind_size-low term;
  high = let b = first-below terms (i + 1) in omega (arith, ints, b, small);
}

-- the first terms by what they mean
pub first-sizes : (terms : List Kind) (meant : List Meaning) (i : ℕ)
    → AllZip IsMeaningOf terms meant
    → total_by (take i terms) meant ≡ total_size_of (take i terms)
first-sizes terms meant zero h = refl
first-sizes [] meant (suc i) h = refl
first-sizes (kind ∷ terms) [] (suc i) h = absurd h
first-sizes (kind ∷ terms) (term ∷ meant) (suc i) h =
    omega (arith, ints, kind-size kind term.value h.0.values, first-sizes terms meant i h.1)

-- more of the first terms have no less
pub first-more : (terms : List Kind) (i j : ℕ) → i ≤ j
    → total_size_of (take i terms) ≤ℤ total_size_of (take j terms)
first-more terms zero j le = total_size-low (take j terms)
first-more terms (suc i) zero le = absurd (omega (arith, le))
first-more [] (suc i) (suc j) le = omega (arith, ints)
first-more (t ∷ terms) (suc i) (suc j) le =
    omega (arith, ints, first-more terms i j (omega (arith, le)))

-- the line at which the terms of a text pass the limit is that at which the text is too large
pub too-large : (text : List ℕ) (instance : InstanceData) (ground : ℕ) (lines : List ℕ) (line : ℕ)
    → IsTextOf text instance → AreNumbersOf text ground instance.lines lines
    → PassesAt instance.terms lines line → IsTooLarge text line
too-large text instance ground lines line good numbered h = (
  record { asked = question_of instance; ground_line = ground; lines = lines },
  record { asked = record { good = good; means = means }; numbered = numbered },
  record {
    i = h.i;
    line_is = h.line_is;
    holds = rw (first-sizes instance.terms (meanings_of instance.terms) (h.i + 1) means) h.more;
    before = λ j l over.
        let o = rw (first-sizes instance.terms (meanings_of instance.terms) (j + 1) means) at
        over in
        let m = first-more instance.terms (j + 1) h.i (omega (arith, l)) in
        let b = h.before in
        omega (arith, ints, o, m, b);
  },
) where
  means : AllZip IsMeaningOf instance.terms (meanings_of instance.terms)
  means = kinds-mean instance.terms

-- and an instance whose sizes do not pass it is small enough
pub small-enough : (instance : InstanceData) → total_size_of instance.terms ≤ℤ level_limit
    → IsSmallEnough (question_of instance)
small-enough instance h =
    rw (total-size instance.terms (meanings_of instance.terms) (kinds-mean instance.terms)) h
