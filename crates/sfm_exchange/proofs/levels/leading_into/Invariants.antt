-- the sets of the places of the level that have been looked at are joined
use Rattle.sfm_spec.specs.Progress.{sum_below}
use Rattle.sfm_reach.specs.Bits.{bit_in}
use Rattle.sfm_exchange.proofs.Leading.{IsJoining}
use Rattle.sfm_exchange.proofs.levels.leading_into.Given as goal

abbrev pub invariant-loop-t : goal.invariant-loop-t
invariant-loop-t l = IsJoining l.back l.level l.ahead l.leading

abbrev pub decreases-loop-t : goal.decreases-loop-t
decreases-loop-t l = sum_below 256 (bit_in l.ahead)
