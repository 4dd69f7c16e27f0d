use Rattle.std.proofs.Common.{◌∙◌, length, sym, ap, arith}
use Rattle.std.proofs.lemmas.List.{take_all}
use Rattle.sfm_matroid.proofs.entries.Entries.copy.Goals as goal

pub returns : goal.returns
returns c =
    let i = c.loop-slots.slots-index in
    let now = c.args.self.now in
    let here = ap length c.self.view_is in
    let items = ap length c.deref-slots-items.ensures.value in
    let past = c.loop-slots-test.false in
    c.loop-slots.invariant ∙ take_all i now (omega (arith, here, items, past))

pub invariant_of-result : goal.invariant_of-result
invariant_of-result c =
    let i = c.loop-slots.slots-index in
    let now = c.args.self.now in
    let here = ap length c.self.view_is in
    let items = ap length c.deref-slots-items.ensures.value in
    let past = c.loop-slots-test.false in
    rw (c.loop-slots.invariant ∙ take_all i now (omega (arith, here, items, past))
    ∙ sym c.self.view_is) c.self.invariant
