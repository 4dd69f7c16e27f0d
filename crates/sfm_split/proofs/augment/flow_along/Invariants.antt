-- on the way along the links, with what can move so far
use Rattle.sfm_split.specs.Search.{node_at}
use Rattle.sfm_split.proofs.Augments.{level_of}
use Rattle.sfm_split.proofs.Ways.{IsOnWay}
use Rattle.sfm_split.proofs.augment.flow_along.Given as goal

abbrev pub invariant-loop-link : goal.invariant-loop-link
invariant-loop-link l = IsOnWay l.cells.whos.items l.cells.slots.items l.nodes l.y l.lacks l.most
    l.i l.who l.flow

abbrev pub decreases-loop-link : goal.decreases-loop-link
decreases-loop-link l = level_of (node_at l.nodes l.who)
