-- amounts are raised, and stay within what is left
use Rattle.std.proofs.Common.{◌≡◌, length}
use Rattle.sfm_split.specs.Pours.{AreWithin, AreRaised}
use Rattle.sfm_split.proofs.fill.drain.Given as goal

abbrev pub invariant-loop-e : goal.invariant-loop-e
invariant-loop-e l = record {
  raised : AreRaised l.cells.whos.items l.cells.slots.items l.initial.y l.initial.left.lacks.items
      l.initial.left.rooms.items l.y l.left.lacks.items l.left.rooms.items;
  within : AreWithin l.cells.whos.items l.cells.slots.items l.y l.left.lacks.items
      l.left.rooms.items;
  same : l.left.lacking.items ≡ l.initial.left.lacking.items;
  nodes : length l.search.nodes.items ≡ length l.left.lacks.items;
}
