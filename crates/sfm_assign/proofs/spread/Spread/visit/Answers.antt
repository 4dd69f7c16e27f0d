use Rattle.std.proofs.Common.{◌≡◌, ◌<◌, ℕ, length, get_or, pos, ◌≤ℤ◌, false, ap, sym, rules, FitsSigned, arith, ◌∙◌}
use Rattle.std.proofs.lemmas.Int.{ints}
use Rattle.std.proofs.lemmas.List.{get_or_read}
use mir.Syntax.{w128}
use Rattle.sfm_cells.specs.Splits.{amount_at}
use Rattle.sfm_cells.specs.Cells.{label_at}
use Rattle.sfm_split.proofs.Queues.{marked_here, marked_kept}
use Rattle.sfm_assign.proofs.Spreads.{led_to_room, room_here}
use Rattle.sfm_assign.proofs.spread.Spread.visit.Goals.{After-index-s}
use Rattle.sfm_assign.proofs.spread.Spread.visit.Goals as goal

-- the slot of the cell
slot : (c : After-index-s) → c.index-s.result.now ≡ label_at c.args.shares.now.cells.slots.items
    c.args.e
slot c = let lt = c.requires.cell in let same = c.requires.told.cells.same in get_or_read
    c.args.shares.now.cells.slots.items c.args.e c.index-s.result.now (omega (arith, lt, same))
    (rw c.all.ensures at c.index-s.ensures) 0

pub index-s-requires : goal.index-s-requires
index-s-requires c =
    let lt = c.requires.cell in
    let same = c.requires.told.cells.same in
    let ok = c.args.shares.now.cells.slots.ok.0 in
    rw c.all.ensures (omega (arith, lt, same, ok))

pub offset_bounds-rooms-s : goal.offset_bounds-rooms-s
offset_bounds-rooms-s c =
    let is = slot (goal.at.offset_bounds-rooms-s c).After-index-s in
    let exist = c.requires.told.cells.exist c.args.e c.requires.cell in
    let below : c.index-s.result.now < length c.args.rooms.now = omega (arith, is, exist) in
    omega arith

pub returns-then-contains-clause-end : goal.returns-then-contains-clause-end
returns-then-contains-clause-end c =
    let is = slot (goal.at.returns-then-contains-clause-end c).After-index-s in (
      ap (λ k. get_or c.args.self.now.marks k false) (sym is)
          ∙ (sym c.contains.ensures ∙ c.if-contains.true),
      λ k has. has,
    )

pub returns-then-rooms-s-gt0-clause-end : goal.returns-then-rooms-s-gt0-clause-end
returns-then-rooms-s-gt0-clause-end c =
    let whos = c.args.shares.now.cells.whos.items in
    let slots = c.args.shares.now.cells.slots.items in
    let y = c.args.shares.now.y.items in
    let rooms = c.args.rooms.now in
    let e = c.args.e in
    let f : FitsSigned w128 (get_or rooms c.index-s.result.now (pos 0)) = search rules in
    let q = ap (λ j. amount_at rooms j)
    (slot (goal.at.returns-then-rooms-s-gt0-clause-end c).After-index-s) in
    let t = c.if-rooms-s-gt0.true in
    let room : pos 1 ≤ℤ amount_at rooms (label_at slots e) = omega (arith, ints, q, t) in
    led_to_room whos slots y rooms c.args.self.now.from (label_at whos e)
    (c.requires.spread.led (label_at whos e) c.requires.found)
    (room_here whos slots y rooms e c.requires.cell room)

pub sweep-requires : goal.sweep-requires
sweep-requires c =
    let rooms = c.args.rooms.now in
    let f : FitsSigned w128 (get_or rooms c.index-s.result.now (pos 0)) = search rules in
    let q = ap (λ j. amount_at rooms j) (slot (goal.at.sweep-requires c).After-index-s) in
    let t = c.if-rooms-s-gt0.false in
    let r = c.requires in
    record {
      told = r.told;
      cell = r.cell;
      full = omega (arith, ints, q, t);
      found = r.found;
      spread = r.spread;
    }

pub returns : goal.returns
returns c =
    let marks = c.args.self.now.marks in
    let k = label_at c.args.shares.now.cells.slots.items c.args.e in
    let exist = c.requires.told.cells.exist c.args.e c.requires.cell in
    let places = c.requires.spread.mark_places in
    let in_marks : k < length marks = omega (arith, exist, places) in
    let o = c.in_ok-answer.ensures in
    let told = rw c.in_default.is at o.end in
    record {
      from = o.from;
      next = o.next;
      spread = o.spread;
      wider = o.wider;
      end = rw told (
        marked_here marks k in_marks,
        λ (t : ℕ) has. marked_kept marks k t in_marks has,
      );
    }
