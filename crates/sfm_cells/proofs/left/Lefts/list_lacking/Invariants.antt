-- the demands so far that lack something are listed
use Rattle.std.proofs.Common.{◌≡◌}
use Rattle.sfm_cells.specs.Left.{ListsBelow}
use Rattle.sfm_cells.proofs.left.Lefts.list_lacking.Given as goal

abbrev pub invariant-loop-i : goal.invariant-loop-i
invariant-loop-i l = record {
  lacks : l.self.lacks.items ≡ l.initial.self.lacks.items;
  rooms : l.self.rooms.items ≡ l.initial.self.rooms.items;
  listed : ListsBelow l.i l.self.lacks.items l.self.lacking.items;
}
