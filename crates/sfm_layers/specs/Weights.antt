-- Ranks whose elements have weights: the greatest weight of an independent part, and the levels of the weights.
-- Textbook: Schrijver, Combinatorial Optimization, sections 40 and 44.
use Rattle.std.specs.Prelude.{◌≡◌, ◌↔◌, ℕ, ◌<◌, Bool, List, length, map, slice_index_or, Contains, ℤ, pos, ◌*ℤ◌, ◌≤ℤ◌, ◌<ℤ◌, Some}
use Rattle.std.specs.Int.Signed.{le_z}
use Rattle.sfm_spec.specs.Sets.{IsWithin, sum_over}
use Rattle.sfm_spec.specs.Terms.{SetFunction}

-- of the independent parts of s one weighs r, and none weighs more
pub record IsGreatestWeight (IsIndependent : List Bool → Type 0) (weights : List ℤ) (s : List Bool) (r : ℤ) : Type 0 where
  pub reached : (t : List Bool) × (length t ≡ length s) × IsWithin t s × IsIndependent t × (sum_over t weights ≡ r)
  pub greatest : (t : List Bool) → length t ≡ length s → IsWithin t s → IsIndependent t → sum_over t weights ≤ℤ r

-- w times the greatest weight of an independent part of each part, with a weight for each place
abbrev pub IsWeightedRank : ℤ → (List Bool → Type 0) → List ℤ → SetFunction → Type 0
IsWeightedRank w IsIndependent weights f = (s : List Bool) → length s ≡ length weights → (r : ℤ) × IsGreatestWeight IsIndependent weights s r × (f s ≡ Some (w *ℤ r))

-- the places of weight v or more
abbrev pub at_least : ℤ → List ℤ → List Bool
at_least v weights = map (λ a. le_z v a) weights

-- each weight once, in descending order
pub record AreLevels (weights levels : List ℤ) : Type 0 where
  pub falling : (i j : ℕ) → i < j → j < length levels → slice_index_or levels j (pos 0) <ℤ slice_index_or levels i (pos 0)
  pub all : (v : ℤ) → Contains weights v ↔ Contains levels v

-- the first of some levels, or 0 where there is none
abbrev pub next_level : List ℤ → ℤ
next_level levels = slice_index_or levels 0 (pos 0)
