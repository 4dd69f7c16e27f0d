use Rattle.std.proofs.Common.{◌≡◌, ◌<◌, ◌≤◌, length, arith}
use Rattle.std.proofs.lemmas.List.{get_or_read}
use Rattle.sfm_cells.specs.Cells.{label_at}
use Rattle.sfm_split.proofs.Queues.{searched_begun, searched_more, searched_end, searched_stuck, queue_few}
use Rattle.sfm_split.proofs.search.Search.run.Goals.{After-index-i}
use Rattle.sfm_split.proofs.search.Search.run.Goals as goal

-- the next demand of the queue
next_is : (c : After-index-i) → (c.loop-next.next < length c.loop-next.self.queue.items)
    × (c.index-i.result.now ≡ label_at c.loop-next.self.queue.items c.loop-next.next)
next_is c =
    let queue = c.loop-next.self.queue in
    let ok = queue.ok.0 in
    let lt : c.loop-next.next < length queue.items = omega arith in
    (lt, get_or_read queue.items c.loop-next.next c.index-i.result.now lt c.index-i.ensures 0)

pub loop-next-init : goal.loop-next-init
loop-next-init c =
    let at = c.begin.new.self in
    let told = c.in_ok-begin.ensures in
    rw (told.marks, c.requires.places)
    (searched_begun c.args.cells.now.whos.items c.args.cells.now.slots.items c.args.y.now
    c.args.left.now.lacks.items c.args.left.now.rooms.items at.nodes.items at.queue.items
    told.nodes told.queue)

pub handle-requires-clause-found : goal.handle-requires-clause-found
handle-requires-clause-found c =
    let (lt, is) = next_is (goal.at.handle-requires-clause-found c).After-index-i in
    rw is (c.loop-next.invariant.progress.in_queue.members c.loop-next.next lt)

pub loop-next-smaller : goal.loop-next-smaller
loop-next-smaller c =
    let (lt, is) = next_is (goal.at.loop-next-smaller c).After-index-i in
    let self = c.loop-next.self in
    let few = queue_few c.args.cells.now.whos.items c.args.cells.now.slots.items c.args.y.now
    c.args.left.now.lacks.items c.args.left.now.rooms.items self.nodes.items self.marks.items
    self.queue.items c.loop-next.next c.loop-next.invariant in
    omega (arith, lt, few)

pub loop-next-preserved : goal.loop-next-preserved
loop-next-preserved c =
    let (lt, is) = next_is (goal.at.loop-next-preserved c).After-index-i in
    let self = c.loop-next.self in
    let after = c.handle.new.self in
    let told = c.in_ok-last.ensures in
    searched_more c.args.cells.now.whos.items c.args.cells.now.slots.items c.args.y.now
    c.args.left.now.lacks.items c.args.left.now.rooms.items self.nodes.items self.marks.items
    self.queue.items c.loop-next.next c.index-i.result.now after.nodes.items after.marks.items
    after.queue.items c.loop-next.invariant lt is (rw c.deref.ensures.value at told.handled)
    (rw c.in_default.is at told.told)

pub returns-in-Some-clause-search : goal.returns-in-Some-clause-search
returns-in-Some-clause-search c =
    let (lt, is) = next_is (goal.at.returns-in-Some-clause-search c).After-index-i in
    let self = c.loop-next.self in
    let after = c.handle.new.self in
    let told = c.in_ok-last.ensures in
    searched_end c.args.cells.now.whos.items c.args.cells.now.slots.items c.args.y.now
    c.args.left.now.lacks.items c.args.left.now.rooms.items self.nodes.items self.marks.items
    self.queue.items c.loop-next.next c.index-i.result.now after.nodes.items after.marks.items
    after.queue.items c.loop-next.invariant lt is (rw c.deref.ensures.value at told.handled)
    c.in-Some.last (rw (c.in-Some.is, c.deref.ensures.value) at told.told)

pub returns-clause-search : goal.returns-clause-search
returns-clause-search c =
    let self = c.loop-next.self in
    let next = c.loop-next.next in
    let ok = self.queue.ok.0 in
    let past : length self.queue.items ≤ next = omega arith in
    searched_stuck c.args.cells.now.whos.items c.args.cells.now.slots.items c.args.y.now
    c.args.left.now.lacks.items c.args.left.now.rooms.items self.nodes.items self.marks.items
    self.queue.items next past c.loop-next.invariant

pub returns-clause-places : goal.returns-clause-places
returns-clause-places c = c.loop-next.invariant.mark_places
