-- the places so far are brought up, and all others stay; what is turned round goes along
use Rattle.sfm_spec.specs.Progress.{sum_below}
use Rattle.sfm_reach.specs.Bits.{bit_in}
use Rattle.sfm_reach.specs.Turned.{AreTurned}
use Rattle.sfm_reach.proofs.Uniting.{IsRenewing}
use Rattle.sfm_reach.proofs.unions.renew.Given as goal

abbrev pub invariant-loop-e : goal.invariant-loop-e
invariant-loop-e l = IsRenewing l.rows l.spots l.places l.ahead l.initial.unions.items
    l.unions.items × AreTurned l.unions.items l.back.items

abbrev pub decreases-loop-e : goal.decreases-loop-e
decreases-loop-e l = sum_below 256 (bit_in l.ahead)
