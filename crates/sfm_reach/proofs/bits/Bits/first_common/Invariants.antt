-- the words so far have no place in common
use Rattle.std.proofs.Common.{◌≡◌, ℕ, ◌<◌, get_or}
use Rattle.std.specs.Int.Bits.{bit_and}
use Rattle.sfm_reach.proofs.bits.Bits.first_common.Given as goal

abbrev pub invariant-loop-k : goal.invariant-loop-k
invariant-loop-k l = (j : ℕ) → j < l.k
    → bit_and (get_or l.fn.self.words j 0) (get_or l.fn.other.words j 0) ≡ 0
