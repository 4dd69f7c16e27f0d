use Rattle.std.proofs.Common.{◌≡◌, ◌<◌, ◌≤◌, length, ap, ◌∙◌, arith}
use Rattle.std.proofs.lemmas.List.{get_or_read}
use Rattle.sfm_cells.specs.Cells.{label_at}
use Rattle.sfm_cells.proofs.Clearing.{cleared_more, cleared_all}
use Rattle.sfm_split.proofs.Queues.{member_in}
use Rattle.sfm_split.proofs.search.Search.clear.Goals.{After-index}
use Rattle.sfm_split.proofs.search.Search.clear.Goals as goal

-- the next demand of the queue
next_is : (c : After-index) → (c.index.result.now ≡ label_at c.args.self.now.queue.items c.loop-k.k)
    × (label_at c.args.self.now.queue.items c.loop-k.k < length c.args.self.now.nodes.items)
next_is c =
    let before = c.args.self.now in
    let queue = c.loop-k.self.queue in
    let k = c.loop-k.k in
    let kept = c.loop-k.invariant.queue in
    let long = ap length kept in
    let now = queue.ok.0 in
    let then = before.queue.ok.0 in
    let lt : k < length queue.items = omega (arith, long, now, then) in (
      get_or_read queue.items k c.index.result.now lt c.index.ensures 0
          ∙ ap (λ xs. label_at xs k) kept,
      member_in before.nodes.items before.queue.items k c.requires.queued
          (omega (arith, lt, long)),
    )

pub index_mut-requires : goal.index_mut-requires
index_mut-requires c =
    let (is, below) = next_is (goal.at.index_mut-requires c).After-index in
    let places = c.loop-k.invariant.cleared.same in
    let ok = c.loop-k.self.nodes.ok.0 in
    omega (arith, below, is, places, ok)

pub loop-k-preserved : goal.loop-k-preserved
loop-k-preserved c =
    let (is, below) = next_is (goal.at.loop-k-preserved c).After-index in
    let before = c.args.self.now in
    let inv = c.loop-k.invariant in
    record {
      marks = inv.marks;
      queue = inv.queue;
      cleared = rw is (cleared_more before.nodes.items before.queue.items c.loop-k.self.nodes.items
          c.loop-k.k below inv.cleared);
    }

pub returns-clause-none : goal.returns-clause-none
returns-clause-none c =
    let before = c.args.self.now in
    let then = before.queue.ok.0 in
    let past : length before.queue.items ≤ c.loop-k.k = omega (arith, then) in
    cleared_all before.nodes.items before.queue.items c.loop-k.self.nodes.items c.loop-k.k past
    (λ i b is. c.requires.queued.queued i (b, is)) c.loop-k.invariant.cleared
