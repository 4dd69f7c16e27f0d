-- The places by the sign of z.
use Rattle.std.specs.Prelude.{◌≡◌, ◌≢◌, ◌↔◌, ℕ, ◌<◌, List, length, slice_index_or, ℤ, pos, ◌<ℤ◌, ◌≤ℤ◌}
use Rattle.sfm_exchange.specs.declared.signs.Signs.{Signs}
use Rattle.sfm_reach.specs.Bits.{bit_in}

-- the sets have all places, those with z > 0, and those with z < 0
pub record AreSigns (z : List ℤ) (signs : Signs) : Type 0 where
  pub whole : (e : ℕ) → (bit_in signs.ground e ≡ 1) ↔ (e < length z)
  pub above : (e : ℕ) → (bit_in signs.over e ≡ 1)
      ↔ ((e < length z) × (pos 0 <ℤ slice_index_or z e (pos 0)))
  pub below : (e : ℕ) → (bit_in signs.under e ≡ 1)
      ↔ ((e < length z) × (slice_index_or z e (pos 0) <ℤ pos 0))

-- z has changed at two places alone: at the first it was below 0 and is not above it, and at the
-- last the other way round
pub record AreMoved (before after : List ℤ) (first last : ℕ) : Type 0 where
  pub count : length after ≡ length before
  pub others : (e : ℕ) → e ≢ first → e ≢ last
      → slice_index_or after e (pos 0) ≡ slice_index_or before e (pos 0)
  pub was_under : slice_index_or before first (pos 0) <ℤ pos 0
  pub not_over : slice_index_or after first (pos 0) ≤ℤ pos 0
  pub was_over : pos 0 <ℤ slice_index_or before last (pos 0)
  pub not_under : pos 0 ≤ℤ slice_index_or after last (pos 0)
