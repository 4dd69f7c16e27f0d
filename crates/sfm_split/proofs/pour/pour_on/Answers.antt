use Rattle.std.proofs.Common.{◌≡◌, ℕ, List, length, drop, ℤ, pos, ◌≤ℤ◌, ap, sym, ◌∙◌, arith, rules, FitsSigned}
use Rattle.std.proofs.lemmas.Int.{ints, clamps, to_z-of_z}
use Rattle.std.proofs.lemmas.List.{get_or_read}
use mir.Syntax.{w128}
use Rattle.sfm_cells.specs.Splits.{amount_at}
use Rattle.sfm_cells.specs.Cells.{label_at}
use Rattle.sfm_cells.proofs.Written.{written}
use Rattle.sfm_split.proofs.Pours.{poured_low, poured_small}
use Rattle.sfm_split.proofs.Within.{raised_poured, within_cells, within_lacks, within_pouring, within_rooms}
use Rattle.sfm_split.proofs.pour.pour_on.Goals.{After-min-a}
use Rattle.sfm_split.proofs.pour.pour_on.Goals as goal

-- the demand and the slot of the cell, and what it gets: no less than nothing, and no more than
-- these lack and have left
record IsShare (whos slots : List ℕ) (lacks rooms : List ℤ) (e i s : ℕ) (a : ℤ) : Type 0 where
  who : i ≡ label_at whos e
  slot : s ≡ label_at slots e
  low : pos 0 ≤ℤ a
  lacking : a ≤ℤ amount_at lacks (label_at whos e)
  fits : a ≤ℤ amount_at rooms (label_at slots e)

share : (c : After-min-a) → IsShare c.args.cells.now.whos.items c.args.cells.now.slots.items
    c.args.left.now.lacks.items c.args.left.now.rooms.items c.args.e c.index-i.result.now
    c.index-s.result.now c.min-a.result
share c =
    let whos = c.args.cells.now.whos.items in
    let slots = c.args.cells.now.slots.items in
    let y = c.args.y.now in
    let lacks = c.args.left.now.lacks.items in
    let rooms = c.args.left.now.rooms.items in
    let e = c.args.e in
    let lt = c.requires.cell in
    let w = c.requires.within in
    let cells = within_cells whos slots y lacks rooms w in
    let same = cells.same in
    let owned = cells.owned e lt in
    let exist = cells.exist e lt in
    let who = get_or_read whos e c.index-i.result.now lt c.index-i.ensures 0 in
    let slot = get_or_read slots e c.index-s.result.now (omega (arith, lt, same)) c.index-s.ensures
    0 in
    let x : ℤ = c.index.result.now in
    let z : ℤ = c.index-2.result.now in
    let fx : FitsSigned w128 x = search rules in
    let fz : FitsSigned w128 z = search rules in
    let lack = get_or_read lacks c.index-i.result.now x (omega (arith, who, owned)) c.index.ensures
    (pos 0) ∙ ap (λ k. amount_at lacks k) who in
    let room = get_or_read rooms c.index-s.result.now z (omega (arith, slot, exist))
    c.index-2.ensures (pos 0) ∙ ap (λ k. amount_at rooms k) slot in
    let value = c.min-a.ensures.value in
    let low = within_lacks whos slots y lacks rooms w (label_at whos e) owned in
    let low_room = within_rooms whos slots y lacks rooms w (label_at slots e) exist in
    record {
      who = who;
      slot = slot;
      low = omega (arith, ints, clamps, value, low, low_room, lack, room);
      lacking = omega (arith, ints, clamps, value, lack);
      fits = omega (arith, ints, clamps, value, room);
    }

pub take-requires-clause-low : goal.take-requires-clause-low
take-requires-clause-low c =
    let h = share (goal.at.take-requires-clause-low c).After-min-a in
    let fa : FitsSigned w128 c.min-a.result = search rules in
    rw (to_z-of_z w128 c.min-a.result fa) h.low

pub take-requires-clause-enough : goal.take-requires-clause-enough
take-requires-clause-enough c =
    let h = share (goal.at.take-requires-clause-enough c).After-min-a in
    let fa : FitsSigned w128 c.min-a.result = search rules in
    rw (to_z-of_z w128 c.min-a.result fa, c.deref_mut.ensures.value, h.who) h.lacking

pub take-requires-clause-place : goal.take-requires-clause-place
take-requires-clause-place c =
    let h = share (goal.at.take-requires-clause-place c).After-min-a in
    let left = c.args.left.now in
    rw (c.deref_mut.ensures.value, h.who)
    ((within_cells c.args.cells.now.whos.items c.args.cells.now.slots.items c.args.y.now
    left.lacks.items left.rooms.items c.requires.within).owned c.args.e c.requires.cell)

pub take-requires-2-clause-place : goal.take-requires-2-clause-place
take-requires-2-clause-place c =
    let h = share (goal.at.take-requires-2-clause-place c).After-min-a in
    let left = c.args.left.now in
    rw (c.deref_mut-2.ensures.value, h.slot)
    ((within_cells c.args.cells.now.whos.items c.args.cells.now.slots.items c.args.y.now
    left.lacks.items left.rooms.items c.requires.within).exist c.args.e c.requires.cell)

pub take-requires-2-clause-low : goal.take-requires-2-clause-low
take-requires-2-clause-low c =
    let h = share (goal.at.take-requires-2-clause-low c).After-min-a in
    let fa : FitsSigned w128 c.min-a.result = search rules in
    rw (to_z-of_z w128 c.min-a.result fa) h.low

pub take-requires-2-clause-enough : goal.take-requires-2-clause-enough
take-requires-2-clause-enough c =
    let h = share (goal.at.take-requires-2-clause-enough c).After-min-a in
    let fa : FitsSigned w128 c.min-a.result = search rules in
    rw (to_z-of_z w128 c.min-a.result fa, c.deref_mut-2.ensures.value, h.slot) h.fits

pub put-requires : goal.put-requires
put-requires c =
    let h = share (goal.at.put-requires c).After-min-a in
    let whos = c.args.cells.now.whos.items in
    let slots = c.args.cells.now.slots.items in
    let y = c.args.y.now in
    let lacks = c.args.left.now.lacks.items in
    let rooms = c.args.left.now.rooms.items in
    let e = c.args.e in
    let w = c.requires.within in
    let inv = within_pouring whos slots y lacks rooms w in
    let a : ℤ = c.min-a.result in
    let fa : FitsSigned w128 a = search rules in
    let low = poured_low w.demands w.capacities whos slots y y lacks rooms e a w.cells inv
    c.requires.cell h.low h.fits in
    let high = poured_small w.demands w.capacities whos slots y y lacks rooms e a w.cells inv
    c.requires.cell h.low h.fits w.bounded in
    rw (to_z-of_z w128 a fa) (record {
      place = search rules;
      low = omega (arith, ints, low);
      high = omega (arith, ints, high);
    })

pub returns-clause-raised : goal.returns-clause-raised
returns-clause-raised c =
    let h = share (goal.at.returns-clause-raised c).After-min-a in
    let left = c.args.left.now in
    let lacks = left.lacks.items in
    let rooms = left.rooms.items in
    let a : ℤ = c.min-a.result in
    let fa : FitsSigned w128 a = search rules in
    let za = to_z-of_z w128 a fa in
    let ty = rw za at c.put.ensures in
    let tl = rw (c.deref_mut.ensures.value, h.who, za) at c.take.ensures in
    let tr = rw (c.deref_mut-2.ensures.value, h.slot, za) at c.take-2.ensures in
    let ql = written c.take.new.from (drop (length c.take.new.from) lacks) left.lacks.len
    (c.take.auto.from ∙ (ap length c.deref_mut.ensures.value ∙ sym left.lacks.ok.0)) in
    let qr = written c.take-2.new.from (drop (length c.take-2.new.from) rooms) left.rooms.len
    (c.take-2.auto.from ∙ (ap length c.deref_mut-2.ensures.value ∙ sym left.rooms.ok.0)) in
    rw (ql, qr, ty, tl, tr) (raised_poured c.args.cells.now.whos.items c.args.cells.now.slots.items
    c.args.y.now lacks rooms c.args.e a c.requires.cell h.low h.lacking h.fits)
