-- the first cells of the demand are passed: their slots are marked
use Rattle.std.proofs.Common.{◌≡◌, length}
use Rattle.sfm_spec.specs.Sets.{Has}
use Rattle.sfm_cells.specs.Cells.{label_at}
use Rattle.sfm_assign.specs.Spread.{IsSpread, IsWider}
use Rattle.sfm_cells.proofs.Grouping.{IsPassed}
use Rattle.sfm_assign.proofs.spread.Spread.handle.Given as goal

abbrev pub invariant-loop-e : goal.invariant-loop-e
invariant-loop-e l = record {
  from : l.self.from ≡ l.initial.self.from;
  next : l.self.next ≡ l.initial.self.next;
  spread : IsSpread (length l.answers) l.shares.cells.whos.items l.shares.cells.slots.items
      l.shares.y.items l.rooms l.self.from l.self.found l.self.marks l.self.queue.items l.self.next;
  wider : IsWider l.initial.self.found l.initial.self.queue.items l.self.found l.self.queue.items;
  passed : IsPassed l.e-items l.e-index
      (λ e. Has l.self.marks (label_at l.shares.cells.slots.items e));
}
