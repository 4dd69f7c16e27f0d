-- the run goes well; the count has not fallen, tells the walks and has risen by no more than there
-- may be
use Rattle.std.proofs.Common.{◌≤◌, ◌+◌, length, nat_abs}
use Rattle.sfm_spec.specs.Families.{meanings, rest_at, deficit}
use Rattle.sfm_spec.specs.Walks.{few_walks}
use Rattle.sfm_walk.specs.Labels.{AreLabels}
use Rattle.sfm_walk.proofs.Counting.{IsCounting}
use Rattle.sfm_walk.proofs.Improving.{IsImproving}
use Rattle.sfm_walk.proofs.advance.improve_from.Given as goal

abbrev pub invariant-loop-run : goal.invariant-loop-run
invariant-loop-run g l = let t = g.T.Term in IsImproving t l.terms l.q l.shift l.initial.graph.bases
    l.graph l.run
    × (l.initial.steps ≤ l.steps)
    × IsCounting (meanings t.places t.value_of l.terms) (length l.shift) l.q l.shift
    l.initial.graph.bases l.graph.bases l.initial.steps l.steps
    × (l.steps ≤ l.initial.steps + few_walks (length l.shift) (length l.terms))
    × AreLabels (meanings t.places t.value_of l.terms) (length l.shift) l.q l.shift l.graph.bases
    l.run.levels.items

abbrev pub decreases-loop-run : goal.decreases-loop-run
decreases-loop-run g l = let t = g.T.Term in nat_abs
    (deficit (length l.shift) (rest_at (meanings t.places t.value_of l.terms) l.graph.bases
    l.shift))
