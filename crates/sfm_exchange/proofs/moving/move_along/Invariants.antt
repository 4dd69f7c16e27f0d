-- the steps from the number k on have moved, and the graph with them, whose entries stay small
use Rattle.std.proofs.Common.{length}
use Rattle.std.specs.List.{All}
use Rattle.sfm_spec.specs.Bounds.{IsEntry}
use Rattle.sfm_spec.specs.Families.{meanings}
use Rattle.sfm_exchange.specs.Graph.{IsClaimed}
use Rattle.sfm_exchange.proofs.Exchanging.{HaveMoved}
use Rattle.sfm_exchange.proofs.moving.move_along.Given as goal

abbrev pub invariant-loop-k : goal.invariant-loop-k
invariant-loop-k g l = let t = g.T.Term in HaveMoved (meanings t.places t.value_of l.terms) l.q
    l.initial.graph.bases l.path.first l.path.hops.items l.a l.k l.graph.bases
    × IsClaimed t l.terms (length l.initial.graph.spots.items) l.q l.graph
    × All (λ x. All IsEntry x) l.graph.bases

abbrev pub decreases-loop-k : goal.decreases-loop-k
decreases-loop-k g l = l.k
