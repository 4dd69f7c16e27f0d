-- the amounts are raised, and each turn takes some off what the demands lack
use Rattle.std.proofs.Common.{◌≡◌, length}
use Rattle.sfm_spec.specs.Bounds.{total_of}
use Rattle.sfm_cells.specs.Left.{ListsLacking}
use Rattle.sfm_split.specs.Search.{AreQueued}
use Rattle.sfm_split.specs.Pours.{AreWithin, AreRaised}
use Rattle.sfm_split.proofs.Fills.{to_nat}
use Rattle.sfm_split.proofs.fill.fill_from.Given as goal

abbrev pub invariant-loop-search : goal.invariant-loop-search
invariant-loop-search l = record {
  raised : AreRaised l.cells.whos.items l.cells.slots.items l.initial.y l.initial.left.lacks.items
      l.initial.left.rooms.items l.y l.left.lacks.items l.left.rooms.items;
  within : AreWithin l.cells.whos.items l.cells.slots.items l.y l.left.lacks.items
      l.left.rooms.items;
  listed : ListsLacking l.left.lacks.items l.left.lacking.items;
  nodes : length l.search.nodes.items ≡ length l.left.lacks.items;
  marks : length l.search.marks.items ≡ length l.left.rooms.items;
  queued : AreQueued l.search.nodes.items l.search.queue.items;
}

abbrev pub decreases-loop-search : goal.decreases-loop-search
decreases-loop-search l = to_nat (total_of l.left.lacks.items)
