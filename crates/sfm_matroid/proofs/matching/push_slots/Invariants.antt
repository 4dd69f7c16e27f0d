-- the entries so far
use Rattle.std.proofs.Common.{◌≡◌, take}
use Rattle.sfm_matroid.proofs.matching.push_slots.Given as goal

abbrev pub invariant-loop-e : goal.invariant-loop-e
invariant-loop-e l = record {
  demands : l.demand.demands ≡ take l.e l.x;
  lists : l.demand.lists ≡ take l.e l.entries;
  capacities : l.demand.capacities ≡ l.initial.demand.capacities;
}
