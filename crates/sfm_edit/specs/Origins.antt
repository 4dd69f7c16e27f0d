-- Which terms of an edited instance are terms of the old one.
use Rattle.std.specs.Prelude.{◌≡◌, ℕ, ◌<◌, List, length, map, slice_get, Option, Some, None}
use Rattle.std.specs.List.{range_with_len}
use Rattle.sfm_kind.specs.declared.kind.Kind.{Kind}

-- n terms that are at their old places
abbrev pub all_kept : ℕ → List (Option ℕ)
all_kept n = map (λ i. Some i) (range_with_len 0 n)

-- kept terms are old ones at their places, in their old order, and stand before the added ones
pub record AreOrigins (old new : List Kind) (kept : List (Option ℕ)) : Type 0 where
  pub count : length kept ≡ length new
  pub same : (j i : ℕ) → slice_get kept j ≡ Some (Some i)
      → (i < length old) × (slice_get new j ≡ slice_get old i)
  pub ascending : (j k h i : ℕ) → j < k → slice_get kept j ≡ Some (Some h)
      → slice_get kept k ≡ Some (Some i) → h < i
  pub behind : (j k : ℕ) → j < k → k < length kept → slice_get kept j ≡ Some None
      → slice_get kept k ≡ Some None
