use Rattle.std.proofs.Common.{sym}
use Rattle.sfm_split.proofs.change.take_steps.Goals as goal

pub turn_side-requires : goal.turn_side-requires
turn_side-requires c =
    let r = c.requires in
    rw c.capacities.ensures (record {
      same = sym r.slots;
      bounded = r.bounded;
      stands = (c.args.demand.now.demands, r.stands);
      listed = r.listed;
    })

pub change_demands-requires : goal.change_demands-requires
change_demands-requires c =
    let r = c.requires in
    let told = rw c.capacities.ensures at c.in_ok-turn_side.ensures.stands in
    record {
      can = (
        c.args.demand.now.demands,
        c.args.steps.now.capacities.now,
        told c.args.demand.now.demands r.stands,
        r.changes,
      );
      listed = c.in_ok-turn_side.ensures.listed;
    }

pub returns-clause-stands : goal.returns-clause-stands
returns-clause-stands c =
    let r = c.requires in
    let told = rw c.capacities.ensures at c.in_ok-turn_side.ensures.stands in
    c.in_ok-change_demands.ensures.stands c.args.demand.now.demands
    c.args.steps.now.capacities.now (told c.args.demand.now.demands r.stands) r.changes
