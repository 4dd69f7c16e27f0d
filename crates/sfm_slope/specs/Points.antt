-- Breakpoints that are found and have no bases yet.
use Rattle.std.specs.Prelude.{◌^◌, List, ℤ, ◌≤ℤ◌}
use Rattle.sfm_spec.specs.Bounds.{IsAtMost, total_of}
use Rattle.sfm_spec.specs.Laws.{Mark}
use Rattle.sfm_slope.specs.declared.turn.Breakpoint.{Breakpoint}

-- the slope and the set
abbrev pub found_mark : Breakpoint → Mark
found_mark b = record { num = b.slope.num; den = b.slope.den; members = b.set }

-- the numerator is small, and the denominator at most all sizes together
pub record IsInRange (sizes : List ℤ) (b : Breakpoint) : Type 0 where
  pub small : IsAtMost (10 ^ 19) b.slope.num
  pub few : b.slope.den ≤ℤ total_of sizes
