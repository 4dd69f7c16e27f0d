-- the edges so far
use Rattle.std.proofs.Common.{◌≡◌, take}
use Rattle.sfm_graphic.specs.Ends.{edges_of}
use Rattle.sfm_graphic.specs.Numbered.{end_lists}
use Rattle.sfm_graphic.proofs.testing.push_ends.Given as goal

abbrev pub invariant-loop-e : goal.invariant-loop-e
invariant-loop-e l = record {
  demands : l.demand.demands ≡ take l.e l.x;
  lists : l.demand.lists ≡ take l.e (end_lists (edges_of l.ends));
  capacities : l.demand.capacities ≡ l.initial.demand.capacities;
}
