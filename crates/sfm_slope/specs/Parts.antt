-- The breakpoints as far as some set.
use Rattle.std.specs.Prelude.{ℕ, Bool, List, ℤ, map}
use Rattle.std.specs.List.{All}
use Rattle.sfm_spec.specs.Sets.{empty_set}
use Rattle.sfm_spec.specs.Families.{Meaning}
use Rattle.sfm_spec.specs.Search.{IsChainTo}
use Rattle.sfm_slope.specs.declared.turn.Breakpoint.{Breakpoint}
use Rattle.sfm_slope.specs.Points.{IsInRange, found_mark}

-- a chain from the empty set to the last one
pub record IsPartTo (terms : List Meaning) (n : ℕ) (sizes : List ℤ) (found : List Breakpoint)
    (last : List Bool) : Type 0 where
  pub chain : IsChainTo terms n sizes (empty_set n) (map found_mark found) last
  pub ranges : All (IsInRange sizes) found
