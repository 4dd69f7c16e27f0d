use Rattle.std.proofs.Common.{◌≡◌, ℕ, List}
use Rattle.std.specs.List.{All, Any}
use Rattle.sfm_lines.specs.Lines.{texts_of}
use Rattle.sfm_lines.specs.LabelTerms.{distinct_of}
use Rattle.sfm_passes.specs.GroupPasses.{HasMembers, LacksMember, pieces_left}
use Rattle.sfm_passes.proofs.PieceCuts.{left_length}
use Rattle.sfm_passes.proofs.group_test.all_have_members.Given as goal

abbrev pub invariant-loop-left : goal.invariant-loop-left
invariant-loop-left l = (elements : List (List ℕ)) → texts_of l.known.keys ≡ distinct_of elements
    → (Any (LacksMember elements) (pieces_left l.left)
    → Any (LacksMember elements) (pieces_left l.groups))
    × (All (HasMembers elements) (pieces_left l.left)
    → All (HasMembers elements) (pieces_left l.groups))

abbrev pub decreases-loop-left : goal.decreases-loop-left
decreases-loop-left l = left_length l.left
