-- the other words have what the words so far have
use Rattle.std.proofs.Common.{◌≡◌, ℕ, ◌<◌, get_or}
use Rattle.std.specs.Int.Bits.{bit_and}
use Rattle.sfm_base.proofs.words.are_within.Given as goal

abbrev pub invariant-loop-k : goal.invariant-loop-k
invariant-loop-k l = (j : ℕ) → j < l.k → bit_and (get_or l.words j 0) (get_or l.other j 0) ≡ get_or
    l.words j 0
