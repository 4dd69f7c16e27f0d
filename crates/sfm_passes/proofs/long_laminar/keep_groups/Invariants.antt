use Rattle.sfm_lines.specs.Lines.{texts_of}
use Rattle.sfm_passes.specs.GroupPasses.{pieces_left}
use Rattle.sfm_passes.proofs.PieceCuts.{left_length}
use Rattle.sfm_passes.proofs.GroupTerms.{KeptOf}
use Rattle.sfm_passes.proofs.long_laminar.keep_groups.Given as goal

abbrev pub invariant-loop-left : goal.invariant-loop-left
invariant-loop-left l = KeptOf l.instance.version (texts_of l.elements) (pieces_left l.groups)
    (pieces_left l.left) l.kept.items

abbrev pub decreases-loop-left : goal.decreases-loop-left
decreases-loop-left l = left_length l.left
