-- A number times a rank, as a term, and the base that a greatest independent set gives.
-- Textbook: Schrijver, Combinatorial Optimization, sections 40 and 44.
use Rattle.std.proofs.Common.{◌≡◌, ℕ, suc, ◌+◌, ◌<◌, Bool, false, cond, List, [], ◌∷◌, length, get_or, ℤ, pos, ◌*ℤ◌, if◌then◌else◌, Some}
use Rattle.sfm_spec.specs.Terms.{SetFunction}
use Rattle.sfm_law.proofs.Greedy.{front}

abbrev pub rank_value : ℤ → (List Bool → ℕ) → SetFunction
rank_value w rank s = Some (w *ℤ pos (rank s))

-- m at the places of a set, and 0 elsewhere
abbrev pub at_places : ℤ → List Bool → List ℤ
at_places m [] = []
at_places m (b ∷ s) = (if b then m else pos 0) ∷ at_places m s

-- a set that has a place exactly where it adds to the rank of the places before it
pub record IsFirstBasis (k : ℕ) (rank : List Bool → ℕ) (basis : List Bool) : Type 0 where
  pub places : length basis ≡ k
  pub gains : (j : ℕ) → j < k → rank (front k (suc j)) ≡ rank (front k j) + cond
      (get_or basis j false) 1 0
