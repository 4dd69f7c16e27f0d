-- Distinct places of a ground of n are at most n.
use Rattle.std.proofs.Common.{◌≡◌, ℕ, suc, ◌<◌, ◌≤◌, true, List, [], ◌∷◌, length, get_or, eqb, ◌∙◌, arith, ⊎_elim}
use Rattle.std.specs.List.{list_any}
use Rattle.std.proofs.lemmas.Bool.{or_cases, eqb-true, ne_eqb}
use Rattle.std.proofs.lemmas.List.{get_or_default}
use Rattle.std.proofs.lemmas.Map.Keys.{IsDistinct-from_apart}
use Rattle.std.proofs.lemmas.Map.Steps.{length-le_from_distinct_below}
use Rattle.sfm_spec.specs.Sets.{IsPlaced}

-- what is found among numbers below n is below n
found_below : (n q : ℕ) (places : List ℕ) → ((j : ℕ) → j < length places → get_or places j 0 < n)
    → list_any (eqb q) places ≡ true → q < n
found_below n q [] h e = absurd (cc)
found_below n q (p ∷ places) h e =
    ⊎_elim here (found_below n q places (λ j l. h (suc j) (omega arith)))
    (or_cases (eqb q p) (list_any (eqb q) places) e) where
      here : eqb q p ≡ true → q < n
      here f = omega (arith, eqb-true q p f, h 0 (omega arith))

pub placed_few : (n : ℕ) (places : List ℕ) → IsPlaced n places → length places ≤ n
placed_few n places h =
    length-le_from_distinct_below places n
    (IsDistinct-from_apart eqb places
    (λ i j d lt below. ne_eqb _ _ (λ e. apart i j d lt below e)))
    (λ q e. found_below n q places h.below e) where
      apart : (i j d : ℕ) → i < j → j < length places → get_or places i d ≡ get_or places j d → ⊥
      apart i j d lt below e =
          let k : i ≡ j = h.distinct i j (omega arith) below
          (get_or_default places i 0 d (omega arith) ∙ e ∙ get_or_default places j d 0 below) in
          omega arith
