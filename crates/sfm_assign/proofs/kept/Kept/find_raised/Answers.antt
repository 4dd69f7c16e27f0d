use Rattle.std.proofs.Common.{rules, FitsSigned}
use Rattle.std.proofs.lemmas.Int.{to_z-of_z}
use mir.Syntax.{w128}
use Rattle.sfm_cells.proofs.Outcomes.{other_demands}
use Rattle.sfm_split.specs.Changes.{changed, changed_demands}
use Rattle.sfm_split.specs.Grown.{MayGrow}
use Rattle.sfm_split.proofs.Changes.{length-changed, changed_amounts}
use Rattle.sfm_assign.proofs.kept.Kept.find_raised.Goals.{In_ok-find_met}
use Rattle.sfm_assign.proofs.kept.Kept.find_raised.Goals as goal

-- the demands are met, and nothing is lacking
met : (c : In_ok-find_met) → let k = c.args.self.now in let w = c.find_met.new.work in
    MayGrow (changed_demands c.args.steps.now.changes.now c.args.steps.now.capacities.now k.demand)
    k.shares.cells.whos.items k.shares.cells.slots.items w.y.items w.left.lacks.items
    w.left.rooms.items c.args.u c.args.limit
met c =
    let r = c.requires in
    let d = c.args.self.now.demand in
    let changes = c.args.steps.now.changes.now in
    let sound = c.demands-sound.ensures.sound in
    let found = c.in_ok-find_met.ensures in
    record {
      sound = other_demands d sound (changed changes d.demands) c.args.steps.now.capacities.now
          (length-changed changes d.demands) r.slots
          (changed_amounts changes d.demands r.changes sound.amounts) r.bounded;
      met = found.met;
      lacks_are = found.lacks_are;
      left = found.rooms_are;
      place = rw (length-changed changes d.demands) r.place;
      low = r.low;
      small = r.small;
    }

pub find_met-requires : goal.find_met-requires
find_met-requires c = let r = c.requires in record {
  changes = r.changes;
  slots = r.slots;
  bounded = r.bounded;
  can = r.met;
}

pub raise_most-requires : goal.raise_most-requires
raise_most-requires c =
    let fq : FitsSigned w128 c.args.limit = c.ranges.limit in (
      changed_demands c.args.steps.now.changes.now c.args.steps.now.capacities.now
          c.args.self.now.demand,
      rw c.all.ensures (simp to_z-of_z (met (goal.at.raise_most-requires c).In_ok-find_met)),
    )

pub returns : goal.returns
returns c =
    let fq : FitsSigned w128 c.args.limit = c.ranges.limit in
    let fm : FitsSigned w128 c.in_ok-more.more = search rules in
    let told = rw c.all.ensures at (simp to_z-of_z at c.in_ok-more.ensures) in
    simp to_z-of_z
    (told (changed_demands c.args.steps.now.changes.now c.args.steps.now.capacities.now
    c.args.self.now.demand) (met (goal.at.returns c).In_ok-find_met))
