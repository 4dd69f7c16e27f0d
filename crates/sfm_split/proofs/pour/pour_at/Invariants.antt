-- the amounts so far, and what they leave
use Rattle.std.proofs.Common.{◌≡◌}
use Rattle.sfm_split.specs.Pours.{AreWithin, AreRaised}
use Rattle.sfm_split.proofs.pour.pour_at.Given as goal

abbrev pub invariant-loop-e : goal.invariant-loop-e
invariant-loop-e l = record {
  raised : AreRaised l.cells.whos.items l.cells.slots.items l.initial.y l.initial.left.lacks.items
      l.initial.left.rooms.items l.y l.left.lacks.items l.left.rooms.items;
  within : AreWithin l.cells.whos.items l.cells.slots.items l.y l.left.lacks.items
      l.left.rooms.items;
  same : l.left.lacking.items ≡ l.initial.left.lacking.items;
}
