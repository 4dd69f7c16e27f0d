use Rattle.std.proofs.Common.{refl, arith}
use Rattle.sfm_split.proofs.Changes.{next, all_changed}
use Rattle.sfm_split.proofs.lower.change_demands.Goals as goal

pub loop-change-init : goal.loop-change-init
loop-change-init c = record {
  stands = λ demands capacities h g. (demands, record { rest = g; same = refl }, h);
  listed = c.requires.listed;
}

pub change_total-requires : goal.change_total-requires
change_total-requires c =
    let (demands, capacities, h, g) = c.requires.can in
    let (now, way, stands) = c.loop-change.invariant.stands demands capacities h g in
    let (place, amount, _) = next c.args.changes.now c.loop-change.change-index demands now
    (omega arith) way in
    record {
      can = (now, capacities, record { stands = stands; place = place; total = amount });
      listed = c.loop-change.invariant.listed;
    }

pub loop-change-preserved : goal.loop-change-preserved
loop-change-preserved c = record {
  stands = λ demands capacities h g.
      let (now, way, stands) = c.loop-change.invariant.stands demands capacities h g in
      let (place, amount, more) = next c.args.changes.now c.loop-change.change-index demands now
      (omega arith) way in (
        _,
        more,
        c.in_ok-change_total.ensures.stands now capacities
            (record { stands = stands; place = place; total = amount }),
      );
  listed = c.in_ok-change_total.ensures.listed;
}

pub returns-clause-stands : goal.returns-clause-stands
returns-clause-stands c = λ demands capacities h g.
    let (now, way, stands) = c.loop-change.invariant.stands demands capacities h g in
    rw (← all_changed c.args.changes.now c.loop-change.change-index demands now (omega arith) way)
    stands
