use Rattle.std.proofs.Common.{arith}
use Rattle.std.proofs.Math.Pow.{pow_mono}
use Rattle.sfm_simple.proofs.Places.{place_below, place_members}
use Rattle.sfm_simple.proofs.breach.with_place.Goals as goal

pub overflow_add-result : goal.overflow_add-result
overflow_add-result c =
    let r = c.requires in
    let low = place_below c.args._k c.args.s c.args.a r.number r.place r.out in
    let most = pow_mono r.few in
    omega (arith, low, most, c.unit.ensures)

pub returns-clause-number : goal.returns-clause-number
returns-clause-number c = let r = c.requires in rw c.unit.ensures
    (place_below c.args._k c.args.s c.args.a r.number r.place r.out)

pub returns-clause-members : goal.returns-clause-members
returns-clause-members c = let r = c.requires in rw c.unit.ensures
    (place_members c.args._k c.args.s c.args.a r.number r.place r.out)
