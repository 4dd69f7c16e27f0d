-- the places so far
use Rattle.std.proofs.Common.{◌≡◌, ◌↔◌, ℕ, ◌<◌}
use Rattle.sfm_reach.specs.Bits.{bit_in}
use Rattle.sfm_exchange.proofs.signs.places_below.Given as goal

abbrev pub invariant-loop-e : goal.invariant-loop-e
invariant-loop-e l = (e : ℕ) → (bit_in l.ground e ≡ 1) ↔ (e < l.e)
