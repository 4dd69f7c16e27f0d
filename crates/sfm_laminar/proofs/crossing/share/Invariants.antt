use Rattle.std.proofs.Common.{ℕ, ◌<◌, get_or}
use Rattle.std.specs.List.{Contains}
use Rattle.sfm_laminar.proofs.crossing.share.Given as goal

abbrev pub invariant-loop-e : goal.invariant-loop-e
invariant-loop-e l = (k : ℕ) → k < l.e-index → Contains l.b (get_or l.a k 0) → ⊥
