use Rattle.std.proofs.Common.{ℕ, ◌<◌}
use Rattle.sfm_laminar.specs.Crossing.{IsCrossing}
use Rattle.sfm_laminar.proofs.crossing.first_before.Given as goal

abbrev pub invariant-loop-first : goal.invariant-loop-first
invariant-loop-first l = (i : ℕ) → i < l.first → IsCrossing l.groups i l.second → ⊥
