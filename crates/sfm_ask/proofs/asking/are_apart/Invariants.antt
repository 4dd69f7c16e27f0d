use Rattle.std.proofs.Common.{◌<◌, ℕ}
use Rattle.sfm_spec.specs.Sets.{Has}
use Rattle.sfm_ask.proofs.asking.are_apart.Given as goal

-- no element so far is in both
abbrev pub invariant-loop-e : goal.invariant-loop-e
invariant-loop-e l = (e : ℕ) → e < l.e → Has l.s e → Has l.t e → ⊥
