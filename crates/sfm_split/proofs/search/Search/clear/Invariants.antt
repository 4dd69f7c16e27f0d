-- the demands of the queue so far are forgotten
use Rattle.std.proofs.Common.{◌≡◌}
use Rattle.sfm_cells.proofs.Clearing.{IsClearedTo}
use Rattle.sfm_split.proofs.search.Search.clear.Given as goal

abbrev pub invariant-loop-k : goal.invariant-loop-k
invariant-loop-k l = record {
  marks : l.self.marks.items ≡ l.initial.self.marks.items;
  queue : l.self.queue.items ≡ l.initial.self.queue.items;
  cleared : IsClearedTo l.initial.self.nodes.items l.initial.self.queue.items l.self.nodes.items
      l.k;
}
