-- those of the sets so far are in
use Rattle.std.proofs.Common.{◌≡◌, ℕ, ◌<◌}
use Rattle.sfm_reach.specs.Bits.{bit_in, set_at}
use Rattle.sfm_exchange.proofs.claims.claimed_places.Given as goal

abbrev pub invariant-loop-set : goal.invariant-loop-set
invariant-loop-set l = (j e : ℕ) → j < l.set-index → bit_in (set_at l.sets j) e ≡ 1
    → bit_in l.all e ≡ 1
