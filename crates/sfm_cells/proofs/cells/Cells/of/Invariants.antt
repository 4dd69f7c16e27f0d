use Rattle.std.proofs.Common.{◌≡◌, ◌++◌, drop}
use Rattle.sfm_cells.specs.Cells.{joined, owners}
use Rattle.sfm_cells.proofs.cells.Cells.of.Given as goal

abbrev pub invariant-loop-i : goal.invariant-loop-i
invariant-loop-i l = record {
  whos : l.whos.items ++ owners l.i (drop l.i l.lists) ≡ owners 0
      l.lists;
  slots : l.slots.items ++ joined (drop l.i l.lists) ≡ joined l.lists;
}
