-- What a list tells of places, forgotten at the places of another list one after the other.
use Rattle.std.proofs.Common.{◌≡◌, ℕ, ◌+◌, ◌<◌, ◌≤◌, List, length, get_or, set, Option, Some, None, refl, sym, ap, ◌∙◌, arith, ⊎_elim, length-set, get_or-set_other, get_or-set_same}
use Rattle.std.proofs.lemmas.Bool.{cases_eq, cases_lt}
use Rattle.sfm_cells.specs.Cells.{label_at}

-- at the first k of the places nothing is told any more, and nothing new is told
pub record IsClearedTo {A : Type 0} (before : List (Option A)) (places : List ℕ)
    (after : List (Option A)) (k : ℕ) : Type 0 where
  pub same : length after ≡ length before
  pub old : (i : ℕ) (b : A) → get_or after i None ≡ Some b → get_or before i None ≡ Some b
  pub gone : (j : ℕ) → j < k → get_or after (label_at places j) None ≡ None

module _ {A : Type 0} (before : List (Option A)) (places : List ℕ) where
  apart : {a : A} → None ≡ Some a → ⊥
  apart h = cc

  pub cleared_more : (after : List (Option A)) (k : ℕ) → label_at places k < length before
      → IsClearedTo before places after k
      → IsClearedTo before places (set after (label_at places k) None) (k + 1)
  cleared_more after k below inv = record {
    same = length-set after i None ∙ inv.same;
    old = λ j b is. ⊎_elim
        (λ (q : j ≡ i). absurd (apart (sym (here j q) ∙ is)))
        (λ ne. inv.old j b (sym (get_or-set_other after i j None None ne) ∙ is))
        (cases_eq j i);
    gone = λ j lt. ⊎_elim
        (λ (q : label_at places j ≡ i). here (label_at places j) q)
        (λ ne. ⊎_elim
        (λ (l : j < k). get_or-set_other after i (label_at places j) None None ne ∙ inv.gone j l)
        (λ ge. let q : j ≡ k = omega (arith, ge, lt) in absurd (ne (ap (λ m. label_at places m) q)))
        (cases_lt j k))
        (cases_eq (label_at places j) i);
  } where
    i : ℕ
    i = label_at places k

    here : (j : ℕ) → j ≡ label_at places k
        → get_or (set after (label_at places k) None) j None ≡ None
    here j q = let p = inv.same in ap (λ m. get_or (set after (label_at places k) None) m None) q
        ∙ get_or-set_same after (label_at places k) None None (omega (arith, p, below))

  -- where something was told at these places alone, nothing is told any more
  pub cleared_all : (after : List (Option A)) (k : ℕ) → length places ≤ k
      → ((i : ℕ) (b : A) → get_or before i None ≡ Some b → (j : ℕ) × (j < length places)
      × (label_at places j ≡ i)) → IsClearedTo before places after k
      → (i : ℕ) → get_or after i None ≡ None
  cleared_all after k past all inv i = at (get_or after i None) refl where
    at : (o : Option A) → get_or after i None ≡ o → get_or after i None ≡ None
    at None is = is
    at (Some b) is = let (j, lj, e) = all i b (inv.old i b is) in sym
        (ap (λ m. get_or after m None) e) ∙ inv.gone j (omega (arith, lj, past))
