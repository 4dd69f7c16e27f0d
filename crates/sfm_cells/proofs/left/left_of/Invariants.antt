-- what the amounts that were passed leave
use Rattle.sfm_cells.proofs.Leaving.{LeavesTo}
use Rattle.sfm_cells.proofs.left.left_of.Given as goal

abbrev pub invariant-loop-e : goal.invariant-loop-e
invariant-loop-e l = LeavesTo l.totals l.labels l.y l.left.items l.e
