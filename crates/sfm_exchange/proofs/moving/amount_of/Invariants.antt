-- the greatest amount that the steps so far allow; the bases stay
use Rattle.sfm_spec.specs.Families.{meanings}
use Rattle.sfm_exchange.specs.Graph.{IsStill}
use Rattle.sfm_exchange.proofs.Amounts.{IsAmount}
use Rattle.sfm_exchange.proofs.moving.amount_of.Given as goal

abbrev pub invariant-loop-hop : goal.invariant-loop-hop
invariant-loop-hop g l = let t = g.T.Term in IsAmount (meanings t.places t.value_of l.terms) l.q
    l.initial.graph.bases l.hops l.hop-index l.most l.a
    × IsStill t l.terms l.q l.initial.graph l.graph
