use Rattle.std.specs.List.{All, Any}
use Rattle.sfm_passes.specs.GroupPasses.{GroupHolds, GroupFails, pieces_left}
use Rattle.sfm_passes.proofs.PieceCuts.{left_length}
use Rattle.sfm_passes.proofs.group_test.all_groups.Given as goal

abbrev pub invariant-loop-left : goal.invariant-loop-left
invariant-loop-left l = record {
  some : Any (GroupFails l.instance.version l.test) (pieces_left l.left)
      → Any (GroupFails l.instance.version l.test) (pieces_left l.groups);
  all : All (GroupHolds l.instance.version l.test) (pieces_left l.left)
      → All (GroupHolds l.instance.version l.test) (pieces_left l.groups);
}

abbrev pub decreases-loop-left : goal.decreases-loop-left
decreases-loop-left l = left_length l.left
