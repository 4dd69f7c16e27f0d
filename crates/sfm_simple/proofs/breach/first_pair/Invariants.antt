use Rattle.std.proofs.Common.{ℕ, ◌<◌}
use Rattle.sfm_simple.specs.Breaches.{BreaksLaw}
use Rattle.sfm_simple.proofs.breach.first_pair.Given as goal

abbrev pub invariant-loop-a : goal.invariant-loop-a
invariant-loop-a l = (c d : ℕ) → c < l.a → BreaksLaw l.values l.k l.s c d → ⊥
