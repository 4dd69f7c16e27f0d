-- Notes, rows and sets, one for each term.
use Rattle.std.proofs.Common.{◌≡◌, ⊎_elim, ℕ, zero, suc, ◌+◌, ◌<◌, List, [], ◌∷◌, ◌++◌, length, map, get_or, set, replicate, None, ℤ, refl, sym, ap, ◌∙◌, arith, get_or-set_same, get_or-set_other, length-set}
use Rattle.std.proofs.lemmas.Bool.{cases_eq, cases_lt}
use Rattle.std.proofs.lemmas.List.{get_or_default, get_or-replicate, length-append, length-map, get_or-map}
use Rattle.std.proofs.Math.ListN.{get_or-append}
use Rattle.std.proofs.Math.Seq.{get_or-append_seam}
use Rattle.sfm_spec.specs.Terms.{SetFunction}
use Rattle.sfm_spec.specs.Families.{Meaning, meanings}
use Rattle.sfm_spec.specs.Walks.{base_at, term_at}
use Rattle.sfm_law.proofs.Lists.{length-meanings, meanings-at}
use Rattle.sfm_reach.specs.Reach.{AreNotes, AreSized, kept_fits}

-- one note put in place of another, where the row of its term alone has changed
pub notes_set : {X N : Type 0} (fits : X → N → ℤ → List ℤ → Type 0) (q : ℤ) (terms : List X)
    (notes : List N) (rows : List (List ℤ)) (j : ℕ) (term : X) (note : N) (row : List ℤ)
    → length notes ≡ length terms → length rows ≡ length terms → j < length terms
    → AreNotes fits q terms notes rows → term ≡ get_or terms j term → fits term note q row
    → AreNotes fits q terms (set notes j note) (set rows j row)
notes_set fits q terms notes rows j term note row count counted lj h is fit i l x at w note_at =
    ⊎_elim
    (λ same.
    let w_is : w ≡ note = note_at
    ∙ (ap (λ z. get_or (set notes j note) z w) same
    ∙ get_or-set_same notes j note w (omega (arith, lj, count))) in
    let x_is : x ≡ term = at ∙ (ap (λ z. get_or terms z x) same
    ∙ (get_or_default terms j x term lj ∙ sym is)) in
    let r_is : base_at (set rows j row) i ≡ row = ap (λ z. base_at (set rows j row) z) same
    ∙ get_or-set_same rows j row [] (omega (arith, lj, counted)) in
    rw (x_is, w_is, r_is) fit)
    (λ ne. rw (get_or-set_other rows j i row [] ne)
    (h i l x at w (note_at ∙ get_or-set_other notes j i note w ne)))
    (cases_eq i j)

-- one note put in place of another, where all rows stay
pub notes_put : {X N : Type 0} (fits : X → N → ℤ → List ℤ → Type 0) (q : ℤ) (terms : List X)
    (notes : List N) (rows : List (List ℤ)) (j : ℕ) (term : X) (note : N)
    → length notes ≡ length terms → j < length terms → AreNotes fits q terms notes rows
    → term ≡ get_or terms j term → fits term note q (base_at rows j)
    → AreNotes fits q terms (set notes j note) rows
notes_put fits q terms notes rows j term note count lj h is fit i l x at w note_at = ⊎_elim
    (λ same.
    let w_is : w ≡ note = note_at
    ∙ (ap (λ z. get_or (set notes j note) z w) same
    ∙ get_or-set_same notes j note w (omega (arith, lj, count))) in
    let x_is : x ≡ term = at ∙ (ap (λ z. get_or terms z x) same
    ∙ (get_or_default terms j x term lj ∙ sym is)) in
    rw (x_is, w_is, same) fit)
    (λ ne. h i l x at w (note_at ∙ get_or-set_other notes j i note w ne))
    (cases_eq i j)

-- where none is kept, all that are kept fit
pub notes_none : {X N : Type 0} (fits : X → N → ℤ → List ℤ → Type 0) (q : ℤ) (terms : List X)
    (n : ℕ) (rows : List (List ℤ)) → n ≡ length terms
    → AreNotes (kept_fits fits) q terms (replicate n None) rows
notes_none fits q terms n rows count i l x at w note_at =
    rw (note_at ∙ get_or-replicate n i None w (omega (arith, l, count))) tt

-- a list for each of the first k terms, as long as the term has places
pub record AreSizedTo {X A : Type 0} (places : X → List ℕ) (terms : List X) (k : ℕ)
    (lists : List (List A)) : Type 0 where
  pub count : length lists ≡ k
  pub lengths : (i : ℕ) → i < k → (term : X) → term ≡ get_or terms i term
      → length (get_or lists i []) ≡ length (places term)

-- one list more
pub sized_push : {X A : Type 0} (places : X → List ℕ) (terms : List X) (k : ℕ)
    (lists : List (List A)) (term : X) (more : List A) → k < length terms
    → AreSizedTo places terms k lists → term ≡ get_or terms k term
    → length more ≡ length (places term) → AreSizedTo places terms (k + 1) (lists ++ more ∷ [])
sized_push places terms k lists term more lk h is same = record {
  count = omega (arith, length-append lists (more ∷ []), h.count);
  lengths = λ i l x at. ⊎_elim
      (λ less. ap length (get_or-append lists (more ∷ []) [] i (omega (arith, less, h.count)))
      ∙ h.lengths i less x at)
      (λ ge.
      let here : i ≡ k = omega (arith, ge, l) in
      let last : i ≡ length lists = omega (arith, here, h.count) in
      let x_is : x ≡ term = at ∙ (ap (λ z. get_or terms z x) here
      ∙ (get_or_default terms k x term lk ∙ sym is)) in
      ap length (ap (λ z. get_or (lists ++ more ∷ []) z []) last
      ∙ get_or-append_seam lists more [] []) ∙ (same ∙ ap (λ z. length (places z)) (sym x_is)))
      (cases_lt i k);
}

-- an object that is there
pub there_is : {X : Type 0} (xs : List X) (i : ℕ) → i < length xs → (x : X) × (x ≡ get_or xs i x)
there_is [] i l = absurd (omega arith)
there_is (x ∷ xs) zero l = (x, refl)
there_is (x ∷ xs) (suc i) l = there_is xs i (omega arith)

-- those of all terms
pub sized_all : {X A : Type 0} (places : X → List ℕ) (terms : List X) (lists : List (List A))
    → AreSizedTo places terms (length terms) lists → AreSized (map places terms) lists
sized_all places terms lists h = record {
  count = h.count ∙ sym (length-map terms places);
  lengths = λ i l.
      let l' : i < length terms = rw length-map at l in
      let (x, is) = there_is terms i l' in
      h.lengths i l' x is
      ∙ sym (ap length (get_or-map places terms i x [] l' ∙ ap places (sym is)));
}

-- the list of a term that was read
pub sized_at : {X A : Type 0} (places : X → List ℕ) (terms : List X) (lists : List (List A)) (i : ℕ)
    (term : X) → AreSized (map places terms) lists → i < length terms → term ≡ get_or terms i term
    → length (get_or lists i []) ≡ length (places term)
sized_at places terms lists i term h l is =
    let m = get_or-map places terms i term [] l in
    h.lengths i (rw length-map l) ∙ ap length (m ∙ ap places (sym is))

-- the list of a term that was read, as it was read
pub sized_read : {X A : Type 0} (places : X → List ℕ) (terms : List X) (lists : List (List A))
    (i : ℕ) (term : X) (shown : List A) → AreSized (map places terms) lists → i < length terms
    → term ≡ get_or terms i term → shown ≡ get_or lists i shown
    → length shown ≡ length (places term)
sized_read places terms lists i term shown h l is at =
    let ll : i < length lists = omega (arith, h.count, l, length-map terms places) in
    ap length (at ∙ get_or_default lists i shown [] ll) ∙ sized_at places terms lists i term h l is

-- the same by the meanings of the terms
pub sized_meanings : {X A : Type 0} (places : X → List ℕ) (value : X → SetFunction) (terms : List X)
    (lists : List (List A)) → AreSized (map places terms) lists
    → (length lists ≡ length (meanings places value terms))
    × ((i : ℕ) → i < length (meanings places value terms)
    → length (get_or lists i []) ≡ length (term_at (meanings places value terms) i).places)
sized_meanings places value terms lists h = (
  h.count ∙ (length-map terms places ∙ sym (length-meanings places value terms)),
  (λ i l.
      let l' : i < length terms = rw (length-meanings places value terms) at l in
      let (x, is) = there_is terms i l' in
      sized_at places terms lists i x h l' is
      ∙ sym (ap (λ (u : Meaning). length u.places) (meanings-at places value terms i x l' is))),
)

-- a list put in place of one as long
pub sized_set : {A : Type 0} (places : List (List ℕ)) (lists : List (List A)) (i : ℕ) (y : List A)
    → AreSized places lists → length y ≡ length (get_or lists i [])
    → AreSized places (set lists i y)
sized_set places lists i y h same = record {
  count = length-set lists i y ∙ h.count;
  lengths = λ j l. ⊎_elim
      (λ here.
      let inside : i < length lists = omega (arith, h.count, l, here) in
      ap (λ z. length (get_or (set lists i y) z [])) here
      ∙ (ap length (get_or-set_same lists i y [] inside)
      ∙ (same ∙ (ap (λ z. length (get_or lists z [])) (sym here) ∙ h.lengths j l))))
      (λ ne. ap length (get_or-set_other lists i j y [] ne) ∙ h.lengths j l)
      (cases_eq j i);
}
