-- What is kept beside the bases of the first terms, one term after another, in place of what was
-- kept beside other bases.
use Rattle.std.proofs.Common.{◌≡◌, ⊎_elim, ℕ, ◌+◌, ◌<◌, ◌≤◌, List, length, get_or, set, ℤ, sym, ap, ◌∙◌, arith, length-set, get_or-set_same, get_or-set_other}
use Rattle.std.proofs.lemmas.Bool.{cases_eq}
use Rattle.std.proofs.lemmas.List.{get_or_default}
use Rattle.sfm_spec.specs.Walks.{base_at}
use Rattle.sfm_reach.specs.Reach.{AreNotes}

-- there is a note for each term: that of each of the first k fits its row, and that of any other
-- fits some row
pub record AreNotesTo {X N : Type 0} (fits : X → N → ℤ → List ℤ → Type 0) (q : ℤ) (terms : List X)
    (k : ℕ) (notes : List N) (rows : List (List ℤ)) : Type 0 where
  pub count : length notes ≡ length terms
  pub fit : (i : ℕ) → i < k → i < length terms → (term : X) → term ≡ get_or terms i term
      → (note : N) → note ≡ get_or notes i note → fits term note q (base_at rows i)
  pub other : (i : ℕ) → k ≤ i → i < length terms → (term : X) → term ≡ get_or terms i term
      → (note : N) → note ≡ get_or notes i note → (p : ℤ) × (x : List ℤ) × fits term note p x

pub notes_begun : {X N : Type 0} {fits : X → N → ℤ → List ℤ → Type 0} {q : ℤ} {terms : List X}
    {notes : List N} {rows : List (List ℤ)} (p : ℤ) (bases : List (List ℤ))
    → length notes ≡ length terms → AreNotes fits p terms notes bases
    → AreNotesTo fits q terms 0 notes rows
notes_begun p bases count h = record {
  count = count;
  fit = λ i l. absurd (omega (arith, l));
  other = λ i ge lt term is note at. (p, base_at bases i, h i lt term is note at);
}

pub notes_more : {X N : Type 0} {fits : X → N → ℤ → List ℤ → Type 0} {q : ℤ} {terms : List X}
    {k : ℕ} {notes : List N} {rows : List (List ℤ)} → AreNotesTo fits q terms k notes rows
    → k < length terms → (term : X) → term ≡ get_or terms k term
    → (note : N) → fits term note q (base_at rows k)
    → AreNotesTo fits q terms (k + 1) (set notes k note) rows
notes_more {X} {N} {fits} {q} {terms} {k} {notes} {rows} h lk term is note fit = record {
  count = length-set notes k note ∙ h.count;
  fit = λ i l lt w at m read. ⊎_elim
      (λ (here : i ≡ k).
      let m_is : m ≡ note = read ∙ (ap (λ z. get_or (set notes k note) z m) here
      ∙ get_or-set_same notes k note m (omega (arith, lk, h.count))) in
      let w_is : w ≡ term = at ∙ (ap (λ z. get_or terms z w) here
      ∙ (get_or_default terms k w term lk ∙ sym is)) in
      rw (w_is, m_is, here) fit)
      (λ ne. h.fit i (omega (arith, l, ne)) lt w at m (read ∙ get_or-set_other notes k i note m ne))
      (cases_eq i k);
  other = λ i ge lt w at m read. h.other i (omega (arith, ge)) lt w at m
      (read ∙ get_or-set_other notes k i note m (λ here. omega (arith, ge, here)));
}

pub notes_done : {X N : Type 0} {fits : X → N → ℤ → List ℤ → Type 0} {q : ℤ} {terms : List X}
    {k : ℕ} {notes : List N} {rows : List (List ℤ)} → AreNotesTo fits q terms k notes rows
    → length terms ≤ k → AreNotes fits q terms notes rows
notes_done h past i lt term is note at = h.fit i (omega (arith, lt, past)) lt term is note at
