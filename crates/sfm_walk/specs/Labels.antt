-- Labels of places, as levels tell them.
use Rattle.std.specs.Prelude.{◌≡◌, ◌≢◌, ℕ, ◌+◌, ◌<◌, ◌≤◌, List, length, ℤ, pos, ◌<ℤ◌}
use Rattle.sfm_spec.specs.Families.{Meaning, rest_at}
use Rattle.sfm_spec.specs.Walks.{Step, IsStep}
use Rattle.sfm_reach.specs.declared.bits.Bits.{Bits}
use Rattle.sfm_reach.specs.Bits.{bit_in, set_at}
use Rattle.sfm_exchange.specs.Levels.{AreParted, depth_of}

-- the labels of places with z > 0 are 0, and no step lowers a label by more than one
pub record AreLabels (terms : List Meaning) (n : ℕ) (q : ℤ) (shift : List ℤ) (rows : List (List ℤ))
    (levels : List Bits) : Type 0 where
  pub parted : AreParted n levels
  pub few : length levels ≤ n + 1
  pub no_faster : (from : ℕ) (step : Step) → IsStep terms q rows from step
      → depth_of levels from ≤ depth_of levels step.to + 1
  pub ends : (e : ℕ) → e < n → pos 0 <ℤ rest_at terms rows shift e → depth_of levels e ≡ 0

-- the label of one place, which was k, is no less now, and no more than one above that of each
-- other place to which a link leads whose label is not below k; all other places are in the levels
-- in which they were
pub record IsRaised (links : Bits) (before after : List Bits) (at k : ℕ) : Type 0 where
  pub count : length after ≡ length before
  pub others : (j e : ℕ) → e ≢ at → bit_in (set_at after j) e ≡ bit_in (set_at before j) e
  pub once : (i j : ℕ) → bit_in (set_at after i) at ≡ 1 → bit_in (set_at after j) at ≡ 1 → i ≡ j
  pub above : k ≤ depth_of after at
  pub within : (t : ℕ) → t ≢ at → bit_in links t ≡ 1 → k ≤ depth_of before t
      → depth_of after at ≤ depth_of before t + 1
