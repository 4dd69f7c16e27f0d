-- the bits at e are written in the sets of the changed places so far
use Rattle.sfm_spec.specs.Progress.{sum_below}
use Rattle.sfm_reach.specs.Bits.{bit_in}
use Rattle.sfm_reach.proofs.Turning.{IsTurning}
use Rattle.sfm_reach.proofs.turned.turn.Given as goal

abbrev pub invariant-loop-t : goal.invariant-loop-t
invariant-loop-t l = IsTurning l.e l.before l.after l.ahead l.initial.back l.back

abbrev pub decreases-loop-t : goal.decreases-loop-t
decreases-loop-t l = sum_below 256 (bit_in l.ahead)
