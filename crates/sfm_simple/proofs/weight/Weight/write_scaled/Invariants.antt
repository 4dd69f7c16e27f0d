use Rattle.std.proofs.Common.{◌≡◌, take, map, ◌*ℤ◌}
use Rattle.sfm_simple.proofs.weight.Weight.write_scaled.Given as goal

abbrev pub invariant-loop-j : goal.invariant-loop-j
invariant-loop-j l = take l.j l.x ≡ map (λ w. l.q *ℤ w) (take l.j l.self.weights)
