-- What a split over slots is made from: nothing is asked for.
use Rattle.std.proofs.Common.{◌≡◌, ℕ, zero, suc, ◌+◌, ◌<◌, List, [], ◌∷◌, length, get_or, ap, ◌∙◌, arith}
use Rattle.std.specs.List.{All}
use Rattle.std.proofs.lemmas.List.{length-replicate}
use Rattle.sfm_assign.specs.Splits.{Demands}
use Rattle.sfm_matroid.specs.Notes.{IsFrame}

pub frame_lists : (entries : List (List ℕ)) (d : Demands) → IsFrame entries d → d.lists ≡ entries
frame_lists entries d h = ap (λ (d : Demands). d.lists) h.none

pub frame_places : (entries : List (List ℕ)) (d : Demands) → IsFrame entries d
    → length d.demands ≡ length entries
frame_places entries d h = ap (λ (d : Demands). length d.demands) h.none
    ∙ length-replicate (length entries) _

-- ---- a number above all slots

above_each : (slots : List ℕ) → (m : ℕ) × All (λ v. v < m) slots
above_each [] = (0, λ k d lt. absurd (omega (arith, lt)))
above_each (v ∷ slots) = let (m, h) = above_each slots in (suc v + m, at m h) where
  at : (m : ℕ) → All (λ v. v < m) slots → (k d : ℕ) → k < length (v ∷ slots)
      → get_or (v ∷ slots) k d < suc v + m
  at m h zero d lt = omega arith
  at m h (suc k) d lt = let b = h k d (omega (arith, lt)) in omega (arith, b)

pub some_above : (entries : List (List ℕ)) → (m : ℕ) × All (All (λ v. v < m)) entries
some_above [] = (0, λ k d lt. absurd (omega (arith, lt)))
some_above (slots ∷ entries) = let (a, ha) = above_each slots in let (b, hb) = some_above
    entries in (a + b, at a b ha hb) where
      at : (a b : ℕ) → All (λ v. v < a) slots → All (All (λ v. v < b)) entries
          → (k : ℕ) (d : List ℕ)
          → k < length (slots ∷ entries) → All (λ v. v < a + b) (get_or (slots ∷ entries) k d)
      at a b ha hb zero d lt i e li = let h = ha i e li in omega (arith, h)
      at a b ha hb (suc k) d lt i e li =
          let h = hb k d (omega (arith, lt)) i e li in omega (arith, h)
