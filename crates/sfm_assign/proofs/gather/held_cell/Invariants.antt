-- the first cells of the slot are passed, and nothing is on them
use Rattle.sfm_assign.proofs.Gathering.{nothing_on}
use Rattle.sfm_cells.proofs.Grouping.{IsPassed}
use Rattle.sfm_assign.proofs.gather.held_cell.Given as goal

abbrev pub invariant-loop-f : goal.invariant-loop-f
invariant-loop-f l = IsPassed l.f-items l.f-index (nothing_on l.shares.y.items)
