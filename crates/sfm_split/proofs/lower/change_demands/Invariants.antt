-- the demands so far, of which those that are left are still to change
use Rattle.std.proofs.Common.{List, ℤ}
use Rattle.sfm_cells.specs.Left.{ListsLacking}
use Rattle.sfm_split.specs.Lowers.{IsStanding}
use Rattle.sfm_split.specs.Changes.{AreChanges}
use Rattle.sfm_split.proofs.Changes.{AreToCome}
use Rattle.sfm_split.proofs.lower.change_demands.Given as goal

abbrev pub invariant-loop-change : goal.invariant-loop-change
invariant-loop-change l = record {
  stands : (demands capacities : List ℤ) → IsStanding demands capacities l.cells.whos.items
      l.cells.slots.items l.initial.y l.initial.left.lacks.items l.initial.left.rooms.items
      → AreChanges l.changes demands
      → (now : List ℤ) × AreToCome l.changes l.change-index demands now
      × IsStanding now capacities l.cells.whos.items l.cells.slots.items l.y l.left.lacks.items
      l.left.rooms.items;
  listed : ListsLacking l.left.lacks.items l.left.lacking.items;
}
