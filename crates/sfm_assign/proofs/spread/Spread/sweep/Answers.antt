use Rattle.std.proofs.Common.{ℕ, length, pos, ◌≤ℤ◌, refl, arith, ◌∙◌}
use Rattle.std.proofs.lemmas.List.{get_or_read}
use Rattle.sfm_spec.specs.Sets.{Has}
use Rattle.sfm_cells.specs.Splits.{amount_at}
use Rattle.sfm_cells.specs.Cells.{label_at}
use Rattle.sfm_cells.proofs.Grouping.{pass_begun, pass_here, pass_more, pass_done}
use Rattle.sfm_assign.proofs.Spreads.{wider_none, wider_more, spread_marked}
use Rattle.sfm_assign.proofs.spread.Spread.sweep.Goals as goal

pub find-requires : goal.find-requires
find-requires c =
    let r = c.requires in
    let inv = c.loop-own.invariant in
    let same = r.told.cells.same in
    let lc = r.cell in
    let (lt, mine) = pass_here c.args.shares.now.cells.slots_grouped
    (rw c.all-cells.ensures at c.list-own-items.ensures) c.loop-own-test.true in
    record {
      told = r.told;
      own = omega (arith, lt, same);
      other = lc;
      shared = mine ∙ get_or_read c.args.shares.now.cells.slots.items c.args.e c.index-s.result.now
          (omega (arith, lc, same)) (rw c.all-cells.ensures at c.index-s.ensures) 0;
      found = inv.wider.kept (label_at c.args.shares.now.cells.whos.items c.args.e) r.found;
      spread = inv.spread;
    }

pub loop-own-preserved : goal.loop-own-preserved
loop-own-preserved c =
    let whos = c.args.shares.now.cells.whos.items in
    let y = c.args.shares.now.y.items in
    let inv = c.loop-own.invariant in
    let first = c.args.self.now in
    let before = c.loop-own.self in
    let after = c.find.new.self in
    let told = c.in_ok-answer.ensures in
    let Seen : ℕ → Type 0 = λ f. pos 1 ≤ℤ amount_at y f → Has after.found (label_at whos f) in
    record {
      from = told.from ∙ inv.from;
      next = told.next ∙ inv.next;
      marks = told.marks ∙ inv.marks;
      spread = told.spread;
      wider = wider_more first.found before.found after.found first.queue.items before.queue.items
          after.queue.items inv.wider told.wider;
      passed = pass_more Seen inv.passed
          (λ f saw some. told.wider.kept (label_at whos f) (saw some))
          (rw c.in_default.is at told.end);
    }

pub returns-in-Some : goal.returns-in-Some
returns-in-Some c =
    let first = c.args.self.now in
    let before = c.loop-own.self in
    let after = c.find.new.self in
    let inv = c.loop-own.invariant in
    let o = c.in_ok-answer.ensures in
    record {
      from = o.from ∙ inv.from;
      next = o.next ∙ inv.next;
      spread = o.spread;
      wider = wider_more first.found before.found after.found first.queue.items before.queue.items
          after.queue.items inv.wider o.wider;
      end = rw inv.from at (rw c.in-Some.is at o.end);
    }

pub returns-clause-spread : goal.returns-clause-spread
returns-clause-spread c =
    let slots = c.args.shares.now.cells.slots.items in
    let self = c.loop-own.self in
    let s = c.index-s.result.now in
    let inv = c.loop-own.invariant in
    let le = c.requires.cell in
    let same = c.requires.told.cells.same in
    let slot = get_or_read slots c.args.e s (omega (arith, le, same))
    (rw c.all-cells.ensures at c.index-s.ensures) 0 in
    let all = pass_done c.args.shares.now.cells.slots_grouped
    (rw c.all-cells.ensures at c.list-own-items.ensures) c.loop-own-test.false inv.passed in
    rw c.insert.ensures (spread_marked (length c.args.answers.now)
    c.args.shares.now.cells.whos.items slots c.args.shares.now.y.items c.args.rooms.now
    self.from self.found self.marks self.queue.items self.next inv.spread s
    (rw slot c.requires.full) (λ f lf is some. all f (omega (arith, lf, same)) is some))

pub loop-own-init : goal.loop-own-init
loop-own-init c =
    let cells = c.args.shares.now.cells in
    let self = c.args.self.now in
    record {
      from = refl;
      next = refl;
      marks = refl;
      spread = c.requires.spread;
      wider = wider_none self.found self.queue.items;
      passed = pass_begun c.list-own-items.result.now
          (λ f. pos 1 ≤ℤ amount_at c.args.shares.now.y.items f
          → Has self.found (label_at cells.whos.items f));
    }

pub returns-clause-from : goal.returns-clause-from
returns-clause-from c = c.loop-own.invariant.from

pub returns-clause-next : goal.returns-clause-next
returns-clause-next c = c.loop-own.invariant.next

pub returns-clause-wider : goal.returns-clause-wider
returns-clause-wider c = c.loop-own.invariant.wider
