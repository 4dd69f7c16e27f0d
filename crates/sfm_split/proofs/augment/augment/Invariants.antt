-- the amount is on its way, and goes to a demand of a lower level at each turn
use Rattle.sfm_split.specs.Search.{node_at}
use Rattle.sfm_split.proofs.Augments.{IsMoving, level_of}
use Rattle.sfm_split.proofs.augment.augment.Given as goal

abbrev pub invariant-loop-link : goal.invariant-loop-link
invariant-loop-link l = IsMoving l.cells.whos.items l.cells.slots.items l.nodes l.fn.lacks l.last
    l.a l.fn.y l.y l.who

abbrev pub decreases-loop-link : goal.decreases-loop-link
decreases-loop-link l = level_of (node_at l.nodes l.who)
