-- the search so far, along the arcs of the graph at the same bases; no place is claimed but those
-- that were
use Rattle.std.proofs.Common.{◌≡◌, ℕ, length}
use Rattle.sfm_spec.specs.Families.{meanings}
use Rattle.sfm_spec.specs.Progress.{sum_below}
use Rattle.sfm_reach.specs.Bits.{bit_in, set_at}
use Rattle.sfm_exchange.specs.Graph.{IsStill}
use Rattle.sfm_reach.specs.Unions.{IsArc}
use Rattle.sfm_reach.proofs.Searching.{IsSearching, work}
use Rattle.sfm_exchange.proofs.claims.walked_from.Given as goal

abbrev pub invariant-loop-e : goal.invariant-loop-e
invariant-loop-e g l = let t = g.T.Term in IsStill t l.terms l.q l.initial.graph l.graph
    × IsSearching (length l.initial.graph.spots.items)
    (IsArc (meanings t.places t.value_of l.terms) l.q l.initial.graph.bases) l.firsts l.found
    l.ahead
    × ((j t : ℕ) → bit_in (set_at l.graph.claimed.items j) t ≡ 1 → bit_in l.claimed t ≡ 1)

abbrev pub decreases-loop-e : goal.decreases-loop-e
decreases-loop-e g l = sum_below 256 (work l.found l.ahead)
