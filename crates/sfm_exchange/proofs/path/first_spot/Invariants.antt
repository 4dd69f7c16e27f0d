-- no row of the spots so far has the place
use Rattle.std.proofs.Common.{◌≡◌, ℕ, ◌<◌}
use Rattle.sfm_reach.specs.Bits.{bit_in}
use Rattle.sfm_reach.specs.Spots.{spot_at}
use Rattle.sfm_reach.specs.Unions.{spot_row}
use Rattle.sfm_exchange.proofs.path.first_spot.Given as goal

abbrev pub invariant-loop-spot : goal.invariant-loop-spot
invariant-loop-spot l = (j : ℕ) → j < l.spot-index
    → bit_in (spot_row l.rows (spot_at l.spots j)) l.to ≡ 1 → ⊥
