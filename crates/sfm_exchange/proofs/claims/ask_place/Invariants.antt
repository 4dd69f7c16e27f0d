-- the rows of the spots so far are not claimed, and none that was not; the bases and the spots stay
use Rattle.std.proofs.Common.{◌≡◌, ◌≢◌, ℕ, ◌<◌}
use Rattle.sfm_reach.specs.Bits.{bit_in, set_at}
use Rattle.sfm_exchange.specs.Graph.{IsStill}
use Rattle.sfm_reach.specs.Spots.{spot_at, spots_at}
use Rattle.sfm_exchange.proofs.claims.ask_place.Given as goal

abbrev pub invariant-loop-k : goal.invariant-loop-k
invariant-loop-k g l = let t = g.T.Term in IsStill t l.terms l.q l.initial.graph l.graph
    × (l.graph.spots.items ≡ l.initial.graph.spots.items)
    × ((j : ℕ) → j < l.k → bit_in
    (set_at l.graph.claimed.items (spot_at (spots_at l.initial.graph.spots.items l.e) j).term)
    l.e ≢ 1)
    × ((j t : ℕ) → bit_in (set_at l.initial.graph.claimed.items j) t ≢ 1
    → bit_in (set_at l.graph.claimed.items j) t ≢ 1)
