-- the demands so far, of which those that are left are still to change
use Rattle.std.proofs.Common.{◌≡◌}
use Rattle.sfm_split.proofs.Changes.{AreToCome}
use Rattle.sfm_assign.proofs.kept.change_all.Given as goal

abbrev pub invariant-loop-change : goal.invariant-loop-change
invariant-loop-change l = record {
  way : AreToCome l.changes l.change-index l.initial.demand.demands l.demand.demands;
  lists : l.demand.lists ≡ l.initial.demand.lists;
  capacities : l.demand.capacities ≡ l.initial.demand.capacities;
}
