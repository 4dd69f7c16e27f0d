-- Matroids on k places, told by their independent sets, and their ranks.
-- Textbook: Schrijver, Combinatorial Optimization, section 39.
use Rattle.std.proofs.Common.{◌≡◌, ℕ, ◌<◌, Bool, true, false, List, length, get_or, set}
use Rattle.sfm_spec.specs.Sets.{Has, IsWithin, empty_set, size}
use Rattle.sfm_spec.specs.Kinds.{IsRank}

-- the empty set is independent, parts of independent sets are, and of two the smaller can take a
-- place of the larger
pub record IsMatroid (k : ℕ) (IsIndependent : List Bool → Type 0) : Type 0 where
  pub empty : IsIndependent (empty_set k)
  pub parts : (s t : List Bool) → length s ≡ k → length t ≡ k → IsWithin s t → IsIndependent t
      → IsIndependent s
  pub grows : (s t : List Bool) → length s ≡ k → length t ≡ k → IsIndependent s → IsIndependent t
      → size s < size t
      → (e : ℕ) × Has t e × (get_or s e false ≡ false) × IsIndependent (set s e true)

-- the rank of each set of k places
abbrev pub AreRanks : ℕ → (List Bool → Type 0) → (List Bool → ℕ) → Type 0
AreRanks k IsIndependent rank = (s : List Bool) → length s ≡ k → IsRank IsIndependent s (rank s)
