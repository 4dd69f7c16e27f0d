use Rattle.sfm_cells.proofs.Cutting.{IsCutTo}
use Rattle.sfm_split.proofs.split.Split.cut.Given as goal

abbrev pub invariant-loop-i : goal.invariant-loop-i
invariant-loop-i l = IsCutTo l.lists l.y l.rows l.at l.i
