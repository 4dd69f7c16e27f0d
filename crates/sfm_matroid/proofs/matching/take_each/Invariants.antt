use Rattle.sfm_matroid.specs.Matched.{IsMatchedTo}
use Rattle.sfm_matroid.proofs.matching.take_each.Given as goal

abbrev pub invariant-loop-e : goal.invariant-loop-e
invariant-loop-e l = IsMatchedTo l.initial.kept.demand.lists l.s l.e l.t l.kept.demand
