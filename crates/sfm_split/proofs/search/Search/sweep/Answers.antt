use Rattle.std.proofs.Common.{◌≡◌, ℕ, None, pos, ◌≤ℤ◌, length, refl, arith, ap, ◌∙◌}
use Rattle.std.proofs.lemmas.List.{get_or_read}
use Rattle.sfm_cells.specs.Splits.{amount_at}
use Rattle.sfm_cells.specs.Cells.{label_at}
use Rattle.sfm_cells.proofs.Grouping.{pass_begun, pass_here, pass_more, pass_done}
use Rattle.sfm_split.specs.Search.{node_at}
use Rattle.sfm_split.proofs.Queues.{further_none, further_more, out_before, marked_progress}
use Rattle.sfm_split.proofs.search.Search.sweep.Goals as goal

pub find-requires-clause-own : goal.find-requires-clause-own
find-requires-clause-own c =
    let same = c.requires.cells.same in
    let (lt, mine) = pass_here c.args.cells.now.slots_grouped c.list-own-items.ensures
    c.loop-own-test.true in
    omega (arith, lt, same)

pub find-requires-clause-shared : goal.find-requires-clause-shared
find-requires-clause-shared c =
    let same = c.requires.cells.same in
    let lc = c.requires.cell in
    let (lt, mine) = pass_here c.args.cells.now.slots_grouped c.list-own-items.ensures
    c.loop-own-test.true in
    mine ∙ get_or_read c.args.cells.now.slots.items c.args.e c.index-s.result.now
    (omega (arith, lc, same)) c.index-s.ensures 0

pub find-requires-clause-found : goal.find-requires-clause-found
find-requires-clause-found c =
    let (b, is) = c.requires.found in (
      b,
      c.loop-own.invariant.further.kept (label_at c.args.cells.now.whos.items c.args.e) b is,
    )

pub loop-own-preserved : goal.loop-own-preserved
loop-own-preserved c =
    let whos = c.args.cells.now.whos.items in
    let inv = c.loop-own.invariant in
    let first = c.args.self.now in
    let before = c.loop-own.self in
    let after = c.find.new.self in
    let told = c.in_ok-find.ensures in
    let Seen : ℕ → Type 0 = λ f. node_at after.nodes.items (label_at whos f) ≡ None
    → amount_at c.args.y.now f ≤ℤ pos 0 in
    record {
      marks = told.marks ∙ inv.marks;
      progress = told.progress;
      further = further_more first.nodes.items before.nodes.items after.nodes.items
          first.queue.items before.queue.items after.queue.items inv.further told.further;
      passed = pass_more Seen inv.passed
          (λ f seen out. seen (out_before before.nodes.items before.queue.items after.nodes.items
          after.queue.items told.further (label_at whos f) out)) told.seen;
    }

pub loop-own-init : goal.loop-own-init
loop-own-init c =
    let cells = c.args.cells.now in
    let self = c.args.self.now in
    record {
      marks = refl;
      progress = c.requires.progress;
      further = further_none self.nodes.items self.queue.items;
      passed = pass_begun c.list-own-items.result.now
          (λ f. node_at self.nodes.items (label_at cells.whos.items f) ≡ None
          → amount_at c.args.y.now f ≤ℤ pos 0);
    }

pub find-requires-clause-cells : goal.find-requires-clause-cells
find-requires-clause-cells c =
    let inv = c.loop-own.invariant in rw (inv.further.places, ap length inv.marks) c.requires.cells

pub find-requires-clause-same : goal.find-requires-clause-same
find-requires-clause-same c = c.requires.same

pub find-requires-clause-other : goal.find-requires-clause-other
find-requires-clause-other c = c.requires.cell

pub find-requires-clause-progress : goal.find-requires-clause-progress
find-requires-clause-progress c = c.loop-own.invariant.progress

pub returns-clause-progress : goal.returns-clause-progress
returns-clause-progress c =
    let cells = c.args.cells.now in
    let self = c.loop-own.self in
    let inv = c.loop-own.invariant in
    let same = c.requires.cells.same in
    let all = pass_done cells.slots_grouped c.list-own-items.ensures c.loop-own-test.false
    inv.passed in
    marked_progress cells.whos.items cells.slots.items c.args.y.now self.nodes.items
    self.marks.items self.queue.items inv.progress c.index-s.result.now
    (λ f lt is out. all f (omega (arith, lt, same)) is out)
