-- how far the search is
use Rattle.std.proofs.Common.{◌≡◌, ◌-◌, length}
use Rattle.sfm_assign.specs.Spread.{IsSpread}
use Rattle.sfm_assign.proofs.spread.find_answer.Given as goal

abbrev pub invariant-loop-at : goal.invariant-loop-at
invariant-loop-at l = record {
  from : l.at.from ≡ l.u;
  spread : IsSpread (length l.answers) l.shares.cells.whos.items l.shares.cells.slots.items
      l.shares.y.items l.rooms l.u l.at.found l.at.marks l.at.queue.items l.at.next;
}

abbrev pub decreases-loop-at : goal.decreases-loop-at
decreases-loop-at l = length l.answers - l.at.next
