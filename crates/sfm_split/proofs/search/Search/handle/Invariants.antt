-- the first cells of the demand are passed: their slots are marked
use Rattle.sfm_spec.specs.Sets.{Has}
use Rattle.sfm_cells.specs.Cells.{label_at}
use Rattle.sfm_cells.proofs.Grouping.{IsPassed}
use Rattle.sfm_split.specs.Search.{IsHandled}
use Rattle.sfm_split.proofs.search.Search.handle.Given as goal

abbrev pub invariant-loop-e : goal.invariant-loop-e
invariant-loop-e l = record {
  handled : IsHandled l.cells.whos.items l.cells.slots.items l.y l.rooms l.initial.self.nodes.items
      l.initial.self.marks.items l.initial.self.queue.items l.self.nodes.items l.self.marks.items
      l.self.queue.items;
  passed : IsPassed l.e-items l.e-index
      (λ e. Has l.self.marks.items (label_at l.cells.slots.items e));
}
