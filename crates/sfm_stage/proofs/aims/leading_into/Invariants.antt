-- fewer places are still to come
use Rattle.sfm_spec.specs.Progress.{sum_below}
use Rattle.sfm_reach.specs.Bits.{bit_in}
use Rattle.sfm_stage.proofs.aims.leading_into.Given as goal

abbrev pub decreases-loop-t : goal.decreases-loop-t
decreases-loop-t l = sum_below 256 (bit_in l.ahead)
