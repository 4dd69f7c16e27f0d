-- the demands of the list so far that lack something were found
use Rattle.std.proofs.Common.{◌≡◌}
use Rattle.sfm_split.proofs.Queues.{AreRootsTo}
use Rattle.sfm_split.proofs.search.Search.find_roots.Given as goal

abbrev pub invariant-loop-k : goal.invariant-loop-k
invariant-loop-k l = record {
  marks : l.self.marks.items ≡ l.initial.self.marks.items;
  roots : AreRootsTo l.left.lacks.items l.left.lacking.items l.self.nodes.items l.self.queue.items
      l.k;
}
