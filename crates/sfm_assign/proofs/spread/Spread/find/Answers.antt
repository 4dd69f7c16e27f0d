use Rattle.std.proofs.Common.{◌≡◌, ◌<◌, false, true, length, get_or, None, ℤ, pos, ◌≤ℤ◌, refl, ap, sym, rules, FitsSigned, arith, ◌∙◌, get_or-set_same}
use Rattle.std.proofs.lemmas.Int.{ints}
use Rattle.std.proofs.lemmas.List.{get_or_read}
use mir.Syntax.{w128}
use Rattle.sfm_cells.specs.Splits.{amount_at}
use Rattle.sfm_cells.specs.Cells.{label_at}
use Rattle.sfm_assign.specs.Spread.{LeadsTo, IsAnswer}
use Rattle.sfm_assign.proofs.Spreads.{led_further, spread_entered, entered_wider, wider_none, taken, answer_told}
use Rattle.sfm_assign.proofs.spread.Spread.find.Goals.{After-index-answers-f, In-Some}
use Rattle.sfm_assign.proofs.spread.Spread.find.Goals as goal

-- the demand of the cell is one that is led to, since it has something on the slot
led : (c : After-index-answers-f)
    → (c.index-f.result.now ≡ label_at c.args.shares.now.cells.whos.items c.args.link.own)
    × (c.index-f.result.now < length c.args.answers.now)
    × LeadsTo c.args.shares.now.cells.whos.items c.args.shares.now.cells.slots.items
    c.args.shares.now.y.items c.args.self.now.from c.index-f.result.now
led c =
    let whos = c.args.shares.now.cells.whos.items in
    let slots = c.args.shares.now.cells.slots.items in
    let y = c.args.shares.now.y.items in
    let own = c.args.link.own in
    let other = c.args.link.other in
    let lo = c.requires.own in
    let same = c.requires.told.same in
    let who = get_or_read whos own c.index-f.result.now lo (rw c.all.ensures at c.index-f.ensures)
    0 in
    let owned = c.requires.told.cells.owned own lo in
    let v : ℤ = c.index.result.now in
    let fv : FitsSigned w128 v = search rules in
    let value = get_or_read y own v (omega (arith, lo, same)) c.index.ensures (pos 0) in
    let positive = c.if-index-le0.false in
    let some : pos 1 ≤ℤ amount_at y own = omega (arith, ints, value, positive) in (
      who,
      omega (arith, owned, who),
      rw who (led_further whos slots y c.args.self.now.from other own c.requires.other lo
          c.requires.shared some (c.requires.spread.led (label_at whos other) c.requires.found)),
    )

-- what is told of it
told : (c : In-Some) → c.index-f.result.now < length c.args.answers.now
    → IsAnswer (length c.args.answers.now) c.args.shares.now.cells.whos.items
    c.args.shares.now.cells.slots.items c.args.shares.now.y.items c.args.rooms.now
    c.index-f.result.now c.in-Some.answer
told c below =
    let answers = c.args.answers.now in
    let f = c.index-f.result.now in
    let read = get_or_read answers f c.index-answers-f.result below c.index-answers-f.is None in
    answer_told (length answers) c.args.shares.now.cells.whos.items
    c.args.shares.now.cells.slots.items c.args.shares.now.y.items c.args.rooms.now answers f
    c.in-Some.answer c.requires.told.known (sym read ∙ c.in-Some.is)

pub take_in-requires-clause-sized : goal.take_in-requires-clause-sized
take_in-requires-clause-sized c =
    let path = goal.at.take_in-requires-clause-sized c in
    let (who, below, here) = led path.After-index-answers-f in
    λ set is. (rw is at (told path.In-Some below)).places ∙ sym c.requires.spread.places

pub returns-in_ok-enter-in-None : goal.returns-in_ok-enter-in-None
returns-in_ok-enter-in-None c =
    let path = goal.at.returns-in_ok-enter-in-None c in
    let (who, below, here) = led path.After-index-answers-f in
    let n = length c.args.answers.now in
    let cells = c.args.shares.now.cells in
    let y = c.args.shares.now.y.items in
    let rooms = c.args.rooms.now in
    let self = c.args.self.now in
    let f = c.index-f.result.now in
    let e = c.in_ok-enter-in-None.ensures in
    let places = c.requires.spread.places in
    let wide : f < length self.found = omega (arith, below, places) in
    let out : get_or self.found f false ≡ false = sym c.contains.ensures ∙ c.if-contains.false in
    record {
      from = e.from;
      next = e.next;
      marks = e.marks;
      spread = rw (e.from, e.next, e.marks, e.found, e.queue)
          (spread_entered n cells.whos.items cells.slots.items y rooms self.from self.found
          self.marks self.queue.items self.next c.requires.spread f below out here);
      wider = rw (e.found, e.queue)
          (entered_wider n cells.whos.items cells.slots.items y rooms self.from self.found
          self.marks self.queue.items self.next c.requires.spread f below out here);
      end = λ some. rw (e.found, ← who) (get_or-set_same self.found f true false wide);
    }

pub returns-in_ok-joined-in-Some : goal.returns-in_ok-joined-in-Some
returns-in_ok-joined-in-Some c =
    let path = goal.at.returns-in_ok-joined-in-Some c in
    let (who, below, here) = led path.After-index-answers-f in
    let y = c.args.shares.now.y.items in
    let whos = c.args.shares.now.cells.whos.items in
    let self = c.args.self.now in
    let own = c.args.link.own in
    let f = c.index-f.result.now in
    let e = c.in_ok-joined-in-Some.ensures in
    let (spread, wider, end) = taken (length c.args.answers.now) whos
    c.args.shares.now.cells.slots.items y c.args.rooms.now self.from self.found self.marks
    self.queue.items self.next c.requires.spread f (label_at whos own)
    (pos 1 ≤ℤ amount_at y own) c.in-Some.answer c.take_in.new.self.found
    c.in_ok-joined-in-Some.joined who here (told path.In-Some below) e.found in
    record {
      from = e.from;
      next = e.next;
      marks = e.marks;
      spread = rw (e.from, e.next, e.marks, e.queue) spread;
      wider = rw e.queue wider;
      end = end;
    }

pub returns-then-contains : goal.returns-then-contains
returns-then-contains c =
    let who = get_or_read c.args.shares.now.cells.whos.items c.args.link.own c.index-f.result.now
    c.requires.own (rw c.all.ensures at c.index-f.ensures) 0 in
    let self = c.args.self.now in
    record {
      from = refl;
      next = refl;
      marks = refl;
      spread = c.requires.spread;
      wider = wider_none self.found self.queue.items;
      end = λ some. ap (λ k. get_or self.found k false) (sym who)
          ∙ (sym c.contains.ensures ∙ c.if-contains.true);
    }

pub returns-then-index-le0 : goal.returns-then-index-le0
returns-then-index-le0 c =
    let lo = c.requires.own in
    let same = c.requires.told.same in
    let v : ℤ = c.index.result.now in
    let fv : FitsSigned w128 v = search rules in
    let value = get_or_read c.args.shares.now.y.items c.args.link.own v (omega (arith, lo, same))
    c.index.ensures (pos 0) in
    let none = c.if-index-le0.true in
    record {
      from = refl;
      next = refl;
      marks = refl;
      spread = c.requires.spread;
      wider = wider_none c.args.self.now.found c.args.self.now.queue.items;
      end = λ some. absurd (omega (arith, ints, value, none, some));
    }

pub enter-requires : goal.enter-requires
enter-requires c =
    let (who, below, here) = led (goal.at.enter-requires c).After-index-answers-f in
    let places = c.requires.spread.places in
    omega (arith, below, places)

pub index-f-requires : goal.index-f-requires
index-f-requires c = rw c.all.ensures
    (omega (arith, c.requires.own, c.args.shares.now.cells.whos.ok.0))

pub index-requires : goal.index-requires
index-requires c = omega (arith, c.requires.own, c.requires.told.same, c.args.shares.now.y.ok.0)

pub bounds-answers-f : goal.bounds-answers-f
bounds-answers-f c =
    let own = c.args.link.own in
    let lo = c.requires.own in
    rw (get_or_read c.args.shares.now.cells.whos.items own c.index-f.result.now lo
    (rw c.all.ensures at c.index-f.ensures) 0) (c.requires.told.cells.owned own lo)

pub offset_bounds-answers-f : goal.offset_bounds-answers-f
offset_bounds-answers-f c =
    let own = c.args.link.own in
    let lo = c.requires.own in
    let who = get_or_read c.args.shares.now.cells.whos.items own c.index-f.result.now lo
    (rw c.all.ensures at c.index-f.ensures) 0 in
    let owned = c.requires.told.cells.owned own lo in
    let l : c.index-f.result.now < length c.args.answers.now = omega (arith, who, owned) in
    omega (arith, l)
