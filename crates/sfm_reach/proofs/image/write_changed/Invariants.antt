-- the places ahead are those that are still to be written
use Rattle.sfm_spec.specs.Progress.{sum_below}
use Rattle.sfm_reach.specs.declared.bits.Bits.{Bits}
use Rattle.sfm_reach.specs.Bits.{bit_in}
use Rattle.sfm_reach.proofs.Imaging.{IsWriting}
use Rattle.sfm_reach.proofs.image.write_changed.Given as goal

abbrev pub invariant-loop-v : goal.invariant-loop-v
invariant-loop-v l = (part : Bits) × IsWriting l.places part l.next l.ahead l.bits

abbrev pub decreases-loop-v : goal.decreases-loop-v
decreases-loop-v l = sum_below 256 (bit_in l.ahead)
