-- What a stage keeps beside the graph.
use Rattle.std.specs.Prelude.{◌≡◌, ◌⊎◌, ℕ, ◌<◌, List, length, slice_index_or, ℤ, pos, ◌≤ℤ◌}
use Rattle.sfm_spec.specs.Families.{Meaning, rest_at}
use Rattle.sfm_law.specs.Rest.{IsRest}
use Rattle.sfm_exchange.specs.Signs.{AreSigns}
use Rattle.sfm_stage.specs.declared.kept.Kept.{Kept}

-- z at each place, or 0 where z is not above it
pub record IsLow (terms : List Meaning) (shift : List ℤ) (rows : List (List ℤ)) (z : List ℤ) : Type
    0 where
  pub places : length z ≡ length shift
  pub told : (e : ℕ) → e < length z → (slice_index_or z e (pos 0) ≡ rest_at terms rows shift e)
      ⊎ ((slice_index_or z e (pos 0) ≡ pos 0) × (rest_at terms rows shift e ≤ℤ pos 0))

-- z at either shift, with the signs
pub record IsKept (terms : List Meaning) (low high : List ℤ) (rows : List (List ℤ))
    (kept : Kept) : Type 0 where
  pub lower : IsLow terms low rows kept.low.items
  pub higher : IsRest terms high rows kept.high.items
  pub below : AreSigns kept.low.items kept.below
  pub above : AreSigns kept.high.items kept.above
