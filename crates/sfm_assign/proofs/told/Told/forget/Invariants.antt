-- of the demands of the list so far nothing is told
use Rattle.std.proofs.Common.{◌≡◌}
use Rattle.sfm_cells.proofs.Clearing.{IsClearedTo}
use Rattle.sfm_assign.proofs.told.Told.forget.Given as goal

abbrev pub invariant-loop-k : goal.invariant-loop-k
invariant-loop-k l = record {
  known : l.self-inside.known.items ≡ l.initial.self-inside.known.items;
  cleared : IsClearedTo l.initial.self-inside.answers.items l.initial.self-inside.known.items
      l.self-inside.answers.items l.k;
}
