-- Walks of a stage: as a search sees them, and once each step is a true one.
use Rattle.std.specs.Prelude.{◌≡◌, ℕ, ◌+◌, ◌<◌, ◌≤◌, List, length, slice_index_or, ℤ, pos, ◌<ℤ◌}
use Rattle.sfm_spec.specs.Families.{Meaning, rest_at}
use Rattle.sfm_spec.specs.Labels.{FallsAlong}
use Rattle.sfm_spec.specs.Walks.{Step, IsStep, last_of}
use Rattle.sfm_reach.specs.declared.bits.Bits.{Bits}
use Rattle.sfm_exchange.specs.Hops.{AreNamed, IsMovable, hop_at, steps_of}
use Rattle.sfm_exchange.specs.Levels.{IsFirst}
use Rattle.sfm_stage.specs.declared.kept.Kept.{Kept}
use Rattle.sfm_stage.specs.Aims.{AreAims, IsLed}

-- levels, their aims, and a walk along them that the rows tell
pub record IsSeen (terms : List Meaning) (tables : List (List Bits)) (n : ℕ) (unions : List Bits)
    (kept : Kept) : Type 0 where
  pub first : IsFirst n unions kept.low.items kept.levels.items kept.path.first
  pub aims : AreAims kept.above.over kept.levels.items kept.aims.items
  pub led : IsLed terms tables kept.levels.items kept.aims.items kept.path.first
      kept.path.hops.items

-- a walk from a place below the lower shift to one above the higher: distances fall along it by one
-- at each step, and by no step faster, and they are 0 at each place above the lower shift
pub record IsCourse (terms : List Meaning) (low : List ℤ) (rows : List (List ℤ))
    (kept : Kept) : Type 0 where
  pub d : ℕ → ℕ
  pub some : 0 < length kept.path.hops.items
  pub named : AreNamed terms kept.path.first kept.path.hops.items
  pub movable : (k : ℕ) → k < length kept.path.hops.items
      → IsMovable terms (pos 1) rows (hop_at kept.path.hops.items k)
  pub falls : FallsAlong d kept.path.first (steps_of kept.path.hops.items)
  pub no_faster : (from : ℕ) (step : Step) → IsStep terms (pos 1) rows from step
      → d from ≤ d step.to + 1
  pub ends : (e : ℕ) → e < length low → pos 0 <ℤ rest_at terms rows low e → d e ≡ 0
  pub first_in : kept.path.first < length low
  pub last_in : last_of kept.path.first (steps_of kept.path.hops.items) < length low
  pub under : slice_index_or kept.low.items kept.path.first (pos 0) <ℤ pos 0
  pub over : pos 0 <ℤ slice_index_or kept.high.items
      (last_of kept.path.first (steps_of kept.path.hops.items)) (pos 0)
