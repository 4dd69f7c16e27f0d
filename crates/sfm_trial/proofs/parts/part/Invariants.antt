use Rattle.std.proofs.Common.{◌≡◌, length}
use Rattle.sfm_trial.proofs.parts.part.Given as goal

abbrev pub invariant-loop-e : goal.invariant-loop-e
invariant-loop-e l = length l.s ≡ l.k
