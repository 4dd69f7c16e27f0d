use Rattle.std.proofs.Common.{refl, arith, rules, FitsSigned}
use Rattle.std.proofs.lemmas.Int.{to_z-of_z}
use mir.Syntax.{w128}
use Rattle.sfm_split.proofs.Changes.{change_at, next, all_changed}
use Rattle.sfm_assign.proofs.kept.change_all.Goals as goal

pub loop-change-init : goal.loop-change-init
loop-change-init c = record {
  way = record { rest = c.requires; same = refl };
  lists = refl;
  capacities = refl;
}

pub raise-requires : goal.raise-requires
raise-requires c =
    let fm : FitsSigned w128 (change_at c.args.changes.now c.loop-change.change-index).more =
    search rules in
    let (place, amount, _) = next c.args.changes.now c.loop-change.change-index
    c.args.demand.now.demands c.loop-change.demand.demands (omega arith)
    c.loop-change.invariant.way in
    record { place = place; amount = simp to_z-of_z amount }

pub loop-change-preserved : goal.loop-change-preserved
loop-change-preserved c =
    let fm : FitsSigned w128 (change_at c.args.changes.now c.loop-change.change-index).more =
    search rules in
    let inv = c.loop-change.invariant in
    let told = simp to_z-of_z at c.raise.ensures in
    let (_, _, way) = next c.args.changes.now c.loop-change.change-index
    c.args.demand.now.demands c.loop-change.demand.demands (omega arith) inv.way in
    rw told (record { way = way; lists = inv.lists; capacities = inv.capacities })

pub returns : goal.returns
returns c = λ k.
    let inv = c.loop-change.invariant in
    record {
      demands = all_changed c.args.changes.now c.loop-change.change-index
          c.args.demand.now.demands c.loop-change.demand.demands (omega arith) inv.way k;
      lists = inv.lists k;
      capacities = inv.capacities k;
    }
