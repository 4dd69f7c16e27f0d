use Rattle.std.proofs.Common.{ℕ, ◌<◌}
use Rattle.sfm_laminar.specs.Crossing.{IsCrossing}
use Rattle.sfm_laminar.proofs.crossing.first_crossing.Given as goal

abbrev pub invariant-loop-second : goal.invariant-loop-second
invariant-loop-second l = (i j : ℕ) → j < l.second → IsCrossing l.groups i j → ⊥
