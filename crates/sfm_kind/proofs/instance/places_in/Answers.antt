-- The places so far and those of one more term are no more than all.
use Rattle.std.proofs.Common.{arith, length, ap}
use Rattle.sfm_kind.proofs.Lined.{places-fit}
use Rattle.sfm_kind.proofs.instance.places_in.Goals as goal

pub overflow_add-places : goal.overflow_add-places
overflow_add-places c =
    let few = places-fit c.args.terms.now c.loop-term.term-index c.term-item.result
    c.loop-term.places c.loop-term-test.true c.term-item.is c.requires c.loop-term.invariant in
    let same = ap length c.elements.ensures in
    omega (arith, few, same)
