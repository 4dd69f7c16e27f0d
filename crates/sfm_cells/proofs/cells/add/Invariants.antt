use Rattle.std.proofs.Common.{◌≡◌, ◌++◌, replicate}
use Rattle.sfm_cells.proofs.cells.add.Given as goal

abbrev pub invariant-loop : goal.invariant-loop
invariant-loop l = l.whos.items ≡ l.initial.whos.items ++ replicate l.counter l.i
