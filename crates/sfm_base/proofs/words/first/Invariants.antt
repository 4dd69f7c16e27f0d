-- the words so far have no place
use Rattle.std.proofs.Common.{◌≡◌, ℕ, ◌<◌, ◌/◌}
use Rattle.sfm_base.specs.Words.{bit_of}
use Rattle.sfm_base.proofs.words.first.Given as goal

abbrev pub invariant-loop-k : goal.invariant-loop-k
invariant-loop-k l = (e : ℕ) → e / 64 < l.k → bit_of l.words e ≡ 0
