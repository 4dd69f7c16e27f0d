-- where the steps from here on can move the amount, all of them can
use Rattle.std.proofs.Common.{map, drop}
use Rattle.sfm_spec.specs.Families.{meanings}
use Rattle.sfm_spec.specs.Walks.{AllCanMove}
use Rattle.sfm_law.specs.Walk.{step_of}
use Rattle.sfm_walk_tests.proofs.amounts.can_move.Given as goal

abbrev pub invariant-loop-to : goal.invariant-loop-to
invariant-loop-to g l = let t = g.T.Term in
    AllCanMove (meanings t.places t.value_of l.terms) l.q l.bases l.from
    (map step_of (drop l.to-index l.to-items)) l.a
    → AllCanMove (meanings t.places t.value_of l.terms) l.q l.bases l.walk.first
    (map step_of l.to-items) l.a
