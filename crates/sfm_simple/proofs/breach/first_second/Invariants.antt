use Rattle.std.proofs.Common.{ℕ, ◌<◌}
use Rattle.sfm_simple.specs.Breaches.{BreaksLaw}
use Rattle.sfm_simple.proofs.breach.first_second.Given as goal

abbrev pub invariant-loop-b : goal.invariant-loop-b
invariant-loop-b l = (d : ℕ) → d < l.b → BreaksLaw l.values l.k l.s l.a d → ⊥
