-- the first cells of the slot are passed: of their demands, those that have something there were
-- found
use Rattle.std.proofs.Common.{◌≡◌, None, pos, ◌≤ℤ◌}
use Rattle.sfm_cells.specs.Splits.{amount_at}
use Rattle.sfm_cells.specs.Cells.{label_at}
use Rattle.sfm_cells.proofs.Grouping.{IsPassed}
use Rattle.sfm_split.specs.Search.{node_at, IsProgress, IsFurther}
use Rattle.sfm_split.proofs.search.Search.sweep.Given as goal

abbrev pub invariant-loop-own : goal.invariant-loop-own
invariant-loop-own l = record {
  marks : l.self.marks.items ≡ l.initial.self.marks.items;
  progress : IsProgress l.cells.whos.items l.cells.slots.items l.y l.self.nodes.items
      l.self.marks.items l.self.queue.items;
  further : IsFurther l.initial.self.nodes.items l.initial.self.queue.items l.self.nodes.items
      l.self.queue.items;
  passed : IsPassed l.own-items l.own-index
      (λ f. node_at l.self.nodes.items (label_at l.cells.whos.items f) ≡ None
      → amount_at l.y f ≤ℤ pos 0);
}
