-- Walks that are walk moves at every slope between two.
use Rattle.std.specs.Prelude.{◌≡◌, ℕ, ◌+◌, ◌*◌, ◌^◌, ◌<◌, List, length, slice_index_or, ℤ, pos, ◌*ℤ◌, ◌≤ℤ◌}
use Rattle.std.specs.List.{All}
use Rattle.sfm_spec.specs.Bounds.{IsAtMost}
use Rattle.sfm_spec.specs.Families.{Meaning}
use Rattle.sfm_spec.specs.Walks.{IsWalkChain}
use Rattle.sfm_exchange.specs.Scaled.{rows_times}

-- no shift of the first list is above that of the second
pub record AreOrdered (low high : List ℤ) : Type 0 where
  pub places : length high ≡ length low
  pub order : (e : ℕ) → e < length low → slice_index_or low e (pos 0) ≤ℤ slice_index_or high e
      (pos 0)

-- each shift is at least q times the lower one and at most q times the higher one
pub record IsBetween (q : ℤ) (low high shift : List ℤ) : Type 0 where
  pub positive : pos 1 ≤ℤ q
  pub above : (e : ℕ) → e < length low → (q *ℤ slice_index_or low e (pos 0)) ≤ℤ slice_index_or shift
      e (pos 0)
  pub below : (e : ℕ) → e < length low
      → slice_index_or shift e (pos 0) ≤ℤ (q *ℤ slice_index_or high e (pos 0))

-- at each factor and each shift between, t walk moves lead from the multiples of the one bases to
-- those of the other
abbrev pub AreServed : List Meaning → List ℤ → List ℤ → ℕ → List (List ℤ) → List (List ℤ) → Type 0
AreServed terms low high t before after = (q : ℤ) (shift : List ℤ) → IsBetween q low high shift
    → IsWalkChain terms q shift t (rows_times q before) (rows_times q after)

-- the same, where each walk moves at most 10^20
pub record IsServing (terms : List Meaning) (low high : List ℤ) (t : ℕ)
    (before after : List (List ℤ)) : Type 0 where
  pub served : AreServed terms low high t before after
  pub spread : (m : ℕ) → All (λ x. All (IsAtMost m) x) before
      → All (λ x. All (IsAtMost (m + t * 10 ^ 20)) x) after
