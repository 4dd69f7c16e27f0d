-- Of each level of a search the places from which links lead on to some places of the first.
use Rattle.std.specs.Prelude.{◌≡◌, ℕ, ◌+◌, ◌<◌, List, length}
use Rattle.sfm_spec.specs.Families.{Meaning}
use Rattle.sfm_spec.specs.Labels.{FallsAlong}
use Rattle.sfm_spec.specs.Walks.{last_of}
use Rattle.sfm_reach.specs.declared.bits.Bits.{Bits}
use Rattle.sfm_reach.specs.Bits.{bit_in, set_at}
use Rattle.sfm_reach.specs.Reach.{table_at}
use Rattle.sfm_exchange.specs.declared.path.Hop.{Hop}
use Rattle.sfm_exchange.specs.Hops.{AreHops, IsHop, steps_of}
use Rattle.sfm_exchange.specs.Levels.{depth_of}

-- of each level some places, and of the first such that the set has
pub record AreAims (over : Bits) (levels aims : List Bits) : Type 0 where
  pub count : length aims ≡ length levels
  pub within : (k e : ℕ) → k < length aims → bit_in (set_at aims k) e ≡ 1
      → bit_in (set_at levels k) e ≡ 1
  pub reached : (e : ℕ) → 0 < length aims → bit_in (set_at aims 0) e ≡ 1 → bit_in over e ≡ 1

-- a place of the last of some levels of n places, no two of which have a place in common
pub record IsTop (n : ℕ) (levels : List Bits) (first : ℕ) : Type 0 where
  pub below : (k e : ℕ) → k < length levels → bit_in (set_at levels k) e ≡ 1 → e < n
  pub apart : (j k e : ℕ) → j < length levels → k < length levels → bit_in (set_at levels j) e ≡ 1
      → bit_in (set_at levels k) e ≡ 1 → j ≡ k
  pub further : 1 < length levels
  pub last : (k : ℕ) → k + 1 ≡ length levels → bit_in (set_at levels k) first ≡ 1

-- the rows tell the step, and it leads into the set
pub record IsInto (terms : List Meaning) (tables : List (List Bits)) (from : ℕ) (set : Bits)
    (hop : Hop) : Type 0 where
  pub named : IsHop terms from hop
  pub told : bit_in (set_at (table_at tables hop.term) hop.u) hop.to ≡ 1
  pub onto : bit_in set hop.to ≡ 1

-- the rows tell the walk; it falls along the levels, to a place of the first aims
pub record IsLed (terms : List Meaning) (tables : List (List Bits)) (levels aims : List Bits)
    (first : ℕ) (hops : List Hop) : Type 0 where
  pub told : AreHops terms tables first hops
  pub falls : FallsAlong (depth_of levels) first (steps_of hops)
  pub ends : bit_in (set_at aims 0) (last_of first (steps_of hops)) ≡ 1
  pub some : 0 < length hops
