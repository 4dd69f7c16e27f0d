use Rattle.std.proofs.Common.{ℕ, ◌<◌}
use Rattle.sfm_simple.specs.Breaches.{BreaksLaw}
use Rattle.sfm_simple.proofs.breach.first_breach.Given as goal

abbrev pub invariant-loop-s : goal.invariant-loop-s
invariant-loop-s l = (n c d : ℕ) → n < l.s → BreaksLaw l.values l.k n c d → ⊥
