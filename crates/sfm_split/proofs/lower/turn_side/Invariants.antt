-- the totals that were passed are new, and the demands that lack something are listed
use Rattle.std.proofs.Common.{List, ℤ}
use Rattle.sfm_cells.specs.Left.{ListsLacking, turned}
use Rattle.sfm_split.specs.Lowers.{StandsBy}
use Rattle.sfm_split.proofs.lower.turn_side.Given as goal

abbrev pub invariant-loop-k : goal.invariant-loop-k
invariant-loop-k l = record {
  stands : (others : List ℤ) → StandsBy l.turn.side l.turn.before.now others l.cells.whos.items
      l.cells.slots.items l.initial.y l.initial.left.lacks.items l.initial.left.rooms.items
      → StandsBy l.turn.side (turned l.k l.turn.totals.now l.turn.before.now) others
      l.cells.whos.items l.cells.slots.items l.y l.left.lacks.items l.left.rooms.items;
  listed : ListsLacking l.left.lacks.items l.left.lacking.items;
}
