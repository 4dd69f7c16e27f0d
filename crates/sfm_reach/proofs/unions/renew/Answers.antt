use Rattle.std.proofs.Common.{◌≡◌, ◌<◌, ◌++◌, length, take, drop, sym, ◌∙◌, arith}
use Rattle.std.proofs.lemmas.List.{take_at, get_or_default}
use Rattle.sfm_reach.specs.Bits.{set_at, blank_bits}
use Rattle.sfm_reach.proofs.Picking.{picking_shrinks}
use Rattle.sfm_reach.proofs.Options.{match_none}
use Rattle.sfm_reach.proofs.Spotting.{spots_read}
use Rattle.sfm_reach.proofs.Turning.{turned_set}
use Rattle.sfm_reach.proofs.Uniting.{renewing_begun, renewing_more, rows_read}
use Rattle.sfm_reach.proofs.unions.renew.Goals as goal

pub loop-e-init : goal.loop-e-init
loop-e-init c = (
  renewing_begun c.args.rows.now c.args.spots.now c.args.places.now c.of-ahead.result
      c.args.unions.now.items c.of-ahead.ensures,
  c.requires.turned,
)

pub loop-e-smaller : goal.loop-e-smaller
loop-e-smaller c = picking_shrinks c.loop-e.ahead c.next.new.self c.in-Some.e c.in-Some.ensures

pub bounds-spots-e : goal.bounds-spots-e
bounds-spots-e c = c.requires.placed c.in-Some.e
    (c.loop-e.invariant.0.inside c.in-Some.e c.in-Some.ensures.had)

pub union_at-row-requires : goal.union_at-row-requires
union_at-row-requires c =
    let inside = c.requires.placed c.in-Some.e
    (c.loop-e.invariant.0.inside c.in-Some.e c.in-Some.ensures.had) in
    rows_read c.args.rows.now c.args.spots.now c.in-Some.e c.index-spots-e.result
    c.as_slice.result.now c.requires.rows inside c.index-spots-e.is c.as_slice.ensures

pub turn-requires-clause-place : goal.turn-requires-clause-place
turn-requires-clause-place c = c.in-Some.ensures.below

pub turn-requires-clause-count : goal.turn-requires-clause-count
turn-requires-clause-count c = rw c.deref_mut.ensures.value c.loop-e.invariant.1.count

pub turn-requires-clause-column : goal.turn-requires-clause-column
turn-requires-clause-column c = λ t l.
    let e = c.in-Some.e in
    let inv = c.loop-e.invariant in
    let inside = c.requires.placed e (inv.0.inside e c.in-Some.ensures.had) in
    let unions = c.loop-e.unions.items in
    let read : set_at unions e ≡ c.index.result.now = get_or_default unions e blank_bits
    c.index.result.now (omega (arith, inside, c.requires.count, inv.0.count))
    ∙ sym c.index.ensures in
    rw (c.deref_mut.ensures.value, ← read) (inv.1.exact e t l)

pub loop-e-preserved : goal.loop-e-preserved
loop-e-preserved c =
    let e = c.in-Some.e in
    let one = c.in-Some.ensures.had in
    let inv = c.loop-e.invariant in
    let inside : e < length c.args.spots.now = c.requires.placed e (inv.0.inside e one) in
    let unions = c.loop-e.unions.items in
    let row = c.union_at-row.result in
    let old = c.loop-e.back.items in
    let new = c.turn.new.back in
    let t = c.turn.ensures in
    let here : e < length unions = omega (arith, inside, c.requires.count, inv.0.count) in
    let read = spots_read c.args.spots.now e c.index-spots-e.result inside c.index-spots-e.is
    ∙ sym c.as_slice.ensures in
    let whole : take c.loop-e.back.len (new ++ drop (length new) old) ≡ new = take_at new
    (drop (length new) old) c.loop-e.back.len
    (t.count ∙ (sym inv.1.count ∙ sym c.loop-e.back.ok.0)) in (
      renewing_more c.args.rows.now c.args.spots.now c.args.places.now c.loop-e.ahead
          c.next.new.self c.args.unions.now.items unions e row inv.0 here c.in-Some.ensures
          (rw read c.union_at-row.ensures),
      rw whole (turned_set unions old new e row here inv.1 t.count t.column
          (rw c.deref_mut.ensures.value at t.others)),
    )

pub returns-clause-renewed : goal.returns-clause-renewed
returns-clause-renewed c =
    let inv = c.loop-e.invariant.0 in
    let none = match_none c.next.result _ _ c.next.ensures c.in_default.not-Some in
    record { count = inv.count; renewed = λ e one. inv.renewed e one (none e); others = inv.others }
