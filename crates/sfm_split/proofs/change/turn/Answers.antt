use Rattle.std.proofs.Common.{sym}
use Rattle.sfm_split.proofs.change.turn.Goals as goal

pub turn_side-requires : goal.turn_side-requires
turn_side-requires c =
    let r = c.requires in
    rw c.capacities.ensures (record {
      same = sym r.slots;
      bounded = r.bounded;
      stands = (c.args.demand.now.demands, r.stands);
      listed = r.listed;
    })

pub turn_side-requires-2 : goal.turn_side-requires-2
turn_side-requires-2 c =
    let r = c.requires in
    let told = rw c.capacities.ensures at c.in_ok-turn_side.ensures.stands in
    rw c.demands.ensures.value (record {
      same = sym r.sized;
      bounded = r.amounts;
      stands = (c.args.aim.now.capacities.now, told c.args.demand.now.demands r.stands);
      listed = c.in_ok-turn_side.ensures.listed;
    })

pub returns-clause-stands : goal.returns-clause-stands
returns-clause-stands c =
    let r = c.requires in
    let told = rw c.capacities.ensures at c.in_ok-turn_side.ensures.stands in
    (rw c.demands.ensures.value at c.in_ok-turn_side-2.ensures.stands) c.args.aim.now.capacities.now
    (told c.args.demand.now.demands r.stands)
