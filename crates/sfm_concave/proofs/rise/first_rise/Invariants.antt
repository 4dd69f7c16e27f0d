use Rattle.std.proofs.Common.{ℕ, ◌<◌}
use Rattle.sfm_concave.specs.ConcaveLaws.{RisesAt}
use Rattle.sfm_concave.proofs.rise.first_rise.Given as goal

abbrev pub invariant-loop-at : goal.invariant-loop-at
invariant-loop-at l = (i : ℕ) → i < l.at → RisesAt l.values i → ⊥
