-- no row of the places so far is claimed, and none that was not; the bases and the spots stay
use Rattle.std.proofs.Common.{◌≡◌, ℕ, ◌<◌}
use Rattle.sfm_reach.specs.Bits.{bit_in, set_at}
use Rattle.sfm_exchange.specs.Claimed.{IsSettled}
use Rattle.sfm_exchange.specs.Graph.{IsStill}
use Rattle.sfm_exchange.proofs.claims.ask_claimed.Given as goal

abbrev pub invariant-loop-e : goal.invariant-loop-e
invariant-loop-e g l = let t = g.T.Term in IsStill t l.terms l.q l.initial.graph l.graph
    × (l.graph.spots.items ≡ l.initial.graph.spots.items)
    × ((d : ℕ) → d < l.e → IsSettled l.initial.graph.spots.items l.graph.claimed.items d)
    × ((j t : ℕ) → bit_in (set_at l.graph.claimed.items j) t ≡ 1 → bit_in l.claimed t ≡ 1)
