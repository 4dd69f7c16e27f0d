-- the demands of the queue so far are handled
use Rattle.std.proofs.Common.{length, ◌-◌}
use Rattle.sfm_split.proofs.Queues.{IsSearchedTo}
use Rattle.sfm_split.proofs.search.Search.run.Given as goal

abbrev pub invariant-loop-next : goal.invariant-loop-next
invariant-loop-next l = IsSearchedTo l.cells.whos.items l.cells.slots.items l.y l.left.lacks.items
    l.left.rooms.items l.self.nodes.items l.self.marks.items l.self.queue.items l.next

abbrev pub decreases-loop-next : goal.decreases-loop-next
decreases-loop-next l = length l.left.lacks.items - l.next
