-- it is at most each slope so far
use Rattle.std.proofs.Common.{ℕ, ◌<◌, ◌^◌, get_or, ◌*ℤ◌, ◌≤ℤ◌}
use Rattle.sfm_spec.specs.Bounds.{IsAtMost}
use Rattle.sfm_slope.specs.declared.turn.Breakpoint.{Breakpoint}
use Rattle.sfm_slope.proofs.standing.floor_of.Given as goal

abbrev pub invariant-loop-point : goal.invariant-loop-point
invariant-loop-point l = IsAtMost (10 ^ 19) l.low
    × ((k : ℕ) (d : Breakpoint) → k < l.point-index
    → ((get_or l.found k d).slope.den *ℤ l.low) ≤ℤ (get_or l.found k d).slope.num)
