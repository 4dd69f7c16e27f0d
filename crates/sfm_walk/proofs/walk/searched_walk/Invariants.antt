-- the run goes on over the graph, at the same bases
use Rattle.std.proofs.Common.{◌≡◌}
use Rattle.sfm_exchange.specs.Claimed.{claims_of}
use Rattle.sfm_walk.specs.Run.{IsRunning}
use Rattle.sfm_walk.proofs.walk.searched_walk.Given as goal

abbrev pub invariant-loop-first : goal.invariant-loop-first
invariant-loop-first g l = IsRunning g.T.Term l.terms l.q l._shift l.graph l.run
    × (l.graph.bases ≡ l.initial.graph.bases)

abbrev pub decreases-loop-first : goal.decreases-loop-first
decreases-loop-first g l = claims_of l.graph.claimed.items
