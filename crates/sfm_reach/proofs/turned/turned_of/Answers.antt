use Rattle.std.proofs.Common.{◌≡◌, ◌++◌, length, take, drop, sym, ◌∙◌}
use Rattle.std.proofs.lemmas.List.{take_at, get_or_default}
use Rattle.sfm_reach.specs.Bits.{blank_bits}
use Rattle.sfm_reach.proofs.Turning.{turned_more, turned_all}
use Rattle.sfm_reach.proofs.turned.turned_of.Goals as goal

pub loop-e-preserved : goal.loop-e-preserved
loop-e-preserved c =
    let old = c.loop-e.back.items in
    let new = c.turn.new.back in
    let count = c.turn.ensures.count in
    let whole : take c.loop-e.back.len (new ++ drop (length new) old) ≡ new = take_at new
    (drop (length new) old) c.loop-e.back.len
    (count ∙ (sym c.loop-e.invariant.count ∙ sym c.loop-e.back.ok.0)) in
    rw whole (turned_more c.loop-e.e c.args.rows.now old new _ c.loop-e.invariant count
    (get_or_default c.args.rows.now c.loop-e.e blank_bits _ c.loop-e-test.true)
    c.turn.ensures.column (rw c.deref_mut.ensures.value at c.turn.ensures.others))

pub returns : goal.returns
returns c = turned_all c.loop-e.e c.args.rows.now c.loop-e.back.items c.loop-e.invariant
    c.loop-e-test.false
