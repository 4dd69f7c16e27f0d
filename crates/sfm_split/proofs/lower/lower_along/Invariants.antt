-- the amounts are lowered, nothing is left on the cells that were passed while too much is taken
-- from the total, and the demands that lack something are listed
use Rattle.sfm_cells.specs.Left.{ListsLacking}
use Rattle.sfm_cells.proofs.Grouping.{IsPassed}
use Rattle.sfm_split.specs.Lowers.{AreCharged, AreLowered}
use Rattle.sfm_split.specs.Sides.{of_side}
use Rattle.sfm_split.proofs.Lowering.{IsSpent}
use Rattle.sfm_split.proofs.lower.lower_along.Given as goal

abbrev pub invariant-loop-e : goal.invariant-loop-e
invariant-loop-e l = record {
  lowered : AreLowered l.cells.whos.items l.cells.slots.items l.initial.y l.initial.left.lacks.items
      l.initial.left.rooms.items l.y l.left.lacks.items l.left.rooms.items;
  charged : AreCharged l.cells.whos.items l.cells.slots.items l.y l.left.lacks.items
      l.left.rooms.items;
  passed : IsPassed l.e-items l.e-index
      (IsSpent (of_side l.side l.left.lacks.items l.left.rooms.items) l.k l.y);
  listed : ListsLacking l.left.lacks.items l.left.lacking.items;
}
