-- the levels so far
use Rattle.std.proofs.Common.{length}
use Rattle.sfm_spec.specs.Progress.{sum_below}
use Rattle.sfm_reach.specs.Bits.{bit_in}
use Rattle.sfm_exchange.proofs.Levelling.{IsLevelling}
use Rattle.sfm_exchange.proofs.levels.find_levels.Given as goal

abbrev pub invariant-loop-left : goal.invariant-loop-left
invariant-loop-left l = IsLevelling (length l._z) l._unions l._z l.levels.items l.level l.left

abbrev pub decreases-loop-left : goal.decreases-loop-left
decreases-loop-left l = sum_below (length l._z) (bit_in l.left)
