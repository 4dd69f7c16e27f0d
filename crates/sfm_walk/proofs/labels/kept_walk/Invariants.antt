-- the run goes on over the graph, at the same bases, and its levels are labels
use Rattle.std.proofs.Common.{◌≡◌, length}
use Rattle.sfm_spec.specs.Families.{meanings}
use Rattle.sfm_walk.specs.Labels.{AreLabels}
use Rattle.sfm_walk.specs.Run.{IsRunning}
use Rattle.sfm_walk.proofs.labels.kept_walk.Given as goal

abbrev pub invariant-loop : goal.invariant-loop
invariant-loop g l = let t = g.T.Term in IsRunning t l.terms l.q l._shift l.graph l.run
    × (l.graph.bases ≡ l.initial.graph.bases)
    × AreLabels (meanings t.places t.value_of l.terms) (length l._shift) l.q l._shift l.graph.bases
    l.run.levels.items
