-- the steps so far are true ones, at the same bases
use Rattle.std.proofs.Common.{ℕ, ◌<◌}
use Rattle.sfm_spec.specs.Families.{meanings}
use Rattle.sfm_exchange.specs.Claimed.{IsAsked}
use Rattle.sfm_exchange.specs.Graph.{IsStill}
use Rattle.sfm_exchange.specs.Hops.{IsMovable, hop_at}
use Rattle.sfm_exchange.proofs.claims.prove_walk.Given as goal

abbrev pub invariant-loop-hop : goal.invariant-loop-hop
invariant-loop-hop g l = let t = g.T.Term in IsStill t l.terms l.q l.initial.graph l.graph
    × IsAsked l.initial.graph.rows.items l.initial.graph.claimed.items l.graph.rows.items
    l.graph.claimed.items
    × ((j : ℕ) → j < l.hop-index → IsMovable (meanings t.places t.value_of l.terms) l.q
    l.initial.graph.bases (hop_at l.hops j))
