-- the numbers so far stand before the rest, and are the first ones of any that the bytes hold
use Rattle.std.proofs.Common.{◌≡◌, length}
use Rattle.sfm_readback.proofs.Needs.{NumbersSoFar}
use Rattle.sfm_readback.proofs.numbers.numbers_into.Given as goal

abbrev pub invariant-loop : goal.invariant-loop
invariant-loop l = NumbersSoFar l.count l.bytes l.numbers.items l.rest
    × (length l.numbers.items ≡ l.counter)
