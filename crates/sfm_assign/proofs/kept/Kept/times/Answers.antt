use Rattle.std.proofs.Common.{◌≡◌, map, ◌*ℤ◌, FitsSigned}
use Rattle.std.proofs.lemmas.Int.{to_z-of_z}
use mir.Syntax.{w128}
use Rattle.sfm_cells.proofs.Scaling.{met_times, amounts_times}
use Rattle.sfm_assign.proofs.kept.Kept.times.Goals as goal
use Rattle.sfm_assign.proofs.kept.Kept.times.Goals.{In_ok-shares}

pub times-requires-clause-amounts : goal.times-requires-clause-amounts
times-requires-clause-amounts c =
    let fm : FitsSigned w128 c.args.m = c.ranges.m in
    simp to_z-of_z c.requires.amounts

pub times-requires-clause-bounded : goal.times-requires-clause-bounded
times-requires-clause-bounded c =
    let fm : FitsSigned w128 c.args.m = c.ranges.m in
    simp to_z-of_z c.requires.bounded

pub times-requires-2 : goal.times-requires-2
times-requires-2 c =
    let fm : FitsSigned w128 c.args.m = c.ranges.m in
    let k = c.args.self.now in
    let r = c.requires in
    simp to_z-of_z (amounts_times c.args.m r.low k.demand _ _ k.shares.y.items k.met
    c.demands-sound.ensures.sound r.amounts)

-- m times the demands, over m times the capacities
multiple : (c : In_ok-shares) → c.in_ok-demand.demand ≡ record {
  demands = map (λ a. c.args.m *ℤ a) c.args.self.now.demand.demands;
  lists = c.args.self.now.demand.lists;
  capacities = map (λ a. c.args.m *ℤ a) c.args.self.now.demand.capacities;
}
multiple c =
    let fm : FitsSigned w128 c.args.m = c.ranges.m in
    simp to_z-of_z at c.in_ok-demand.ensures

pub around-requires : goal.around-requires
around-requires c =
    let fm : FitsSigned w128 c.args.m = c.ranges.m in
    let k = c.args.self.now in
    let s = c.in_ok-shares.ensures in
    let amounts : c.in_ok-shares.shares.y.items ≡ map (λ a. c.args.m *ℤ a)
    k.shares.y.items = simp to_z-of_z at s.amounts in
    rw (multiple c, s.whos, s.slots, amounts)
    (met_times c.args.m c.requires.low k.demand _ _ k.shares.y.items k.met)

pub returns : goal.returns
returns c = rw (multiple (goal.at.returns c).In_ok-shares) at c.around.ensures
