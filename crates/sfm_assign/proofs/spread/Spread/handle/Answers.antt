use Rattle.std.proofs.Common.{◌≡◌, ◌+◌, ℕ, length, ap, sym, arith, ◌∙◌}
use Rattle.std.proofs.lemmas.List.{get_or_read}
use Rattle.sfm_spec.specs.Sets.{Has}
use Rattle.sfm_cells.specs.Cells.{label_at}
use Rattle.sfm_cells.proofs.Grouping.{pass_here, pass_more, pass_done}
use Rattle.sfm_assign.proofs.Spreads.{wider_more, spread_handled}
use Rattle.sfm_assign.proofs.spread.Spread.handle.Goals as goal

pub visit-requires-clause-cell : goal.visit-requires-clause-cell
visit-requires-clause-cell c =
    (pass_here c.args.shares.now.cells.whos_grouped (rw c.all.ensures at c.list-e-items.ensures)
    c.loop-e-test.true).0

pub visit-requires-clause-found : goal.visit-requires-clause-found
visit-requires-clause-found c =
    let self = c.args.self.now in
    let queue = self.queue.items in
    let inv = c.loop-e.invariant in
    let (lt, mine) = pass_here c.args.shares.now.cells.whos_grouped
    (rw c.all.ensures at c.list-e-items.ensures) c.loop-e-test.true in
    let place = c.requires.place in
    let is = get_or_read queue self.next c.index-g.result.now place c.index-g.ensures 0 in
    rw (mine ∙ is) (inv.wider.kept (label_at queue self.next)
    (c.requires.spread.members self.next place))

pub loop-e-preserved : goal.loop-e-preserved
loop-e-preserved c =
    let slots = c.args.shares.now.cells.slots.items in
    let inv = c.loop-e.invariant in
    let first = c.args.self.now in
    let before = c.loop-e.self in
    let after = c.visit.new.self in
    let told = c.in_ok-answer.ensures in
    let (marked, kept) = rw c.in_default.is at told.end in
    let Marked : ℕ → Type 0 = λ f. Has after.marks (label_at slots f) in
    record {
      from = told.from ∙ inv.from;
      next = told.next ∙ inv.next;
      spread = told.spread;
      wider = wider_more first.found before.found after.found first.queue.items before.queue.items
          after.queue.items inv.wider told.wider;
      passed = pass_more Marked inv.passed (λ f has. kept (label_at slots f) has) marked;
    }

pub returns-clause-end : goal.returns-clause-end
returns-clause-end c =
    let first = c.args.self.now in
    let self = c.loop-e.self in
    let inv = c.loop-e.invariant in
    let g = c.index-g.result.now in
    let place = c.requires.place in
    let is = get_or_read first.queue.items first.next g place c.index-g.ensures 0 in
    let (long, still) = inv.wider.first first.next place in
    let next = inv.next in
    let stands : label_at self.queue.items self.next ≡ g = ap (λ k. label_at self.queue.items k)
    next ∙ (still ∙ sym is) in
    let all = pass_done c.args.shares.now.cells.whos_grouped
    (rw c.all.ensures at c.list-e-items.ensures) c.loop-e-test.false inv.passed in (
      ap (λ k. k + 1) next,
      spread_handled (length c.args.answers.now)
          c.args.shares.now.cells.whos.items c.args.shares.now.cells.slots.items
          c.args.shares.now.y.items c.args.rooms.now self.from self.found self.marks
          self.queue.items
          self.next inv.spread (omega (arith, next, long)) (λ e lt own. all e lt (own ∙ stands)),
    )
