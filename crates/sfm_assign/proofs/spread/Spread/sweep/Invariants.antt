-- the first cells of the slot are passed: of their demands, those that have something there were
-- found
use Rattle.std.proofs.Common.{◌≡◌, length, pos, ◌≤ℤ◌}
use Rattle.sfm_spec.specs.Sets.{Has}
use Rattle.sfm_cells.specs.Splits.{amount_at}
use Rattle.sfm_cells.specs.Cells.{label_at}
use Rattle.sfm_assign.specs.Spread.{IsSpread, IsWider}
use Rattle.sfm_cells.proofs.Grouping.{IsPassed}
use Rattle.sfm_assign.proofs.spread.Spread.sweep.Given as goal

abbrev pub invariant-loop-own : goal.invariant-loop-own
invariant-loop-own l = record {
  from : l.self.from ≡ l.initial.self.from;
  next : l.self.next ≡ l.initial.self.next;
  marks : l.self.marks ≡ l.initial.self.marks;
  spread : IsSpread (length l.answers) l.shares.cells.whos.items l.shares.cells.slots.items
      l.shares.y.items l.rooms l.self.from l.self.found l.self.marks l.self.queue.items l.self.next;
  wider : IsWider l.initial.self.found l.initial.self.queue.items l.self.found l.self.queue.items;
  passed : IsPassed l.own-items l.own-index
      (λ f. pos 1 ≤ℤ amount_at l.shares.y.items f
      → Has l.self.found (label_at l.shares.cells.whos.items f));
}
