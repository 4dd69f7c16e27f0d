-- the places so far
use Rattle.std.proofs.Common.{◌≡◌, ◌↔◌, ℕ, ◌<◌, get_or, pos, ◌<ℤ◌}
use Rattle.sfm_reach.specs.Bits.{bit_in}
use Rattle.sfm_exchange.proofs.signs.places_under.Given as goal

abbrev pub invariant-loop-e : goal.invariant-loop-e
invariant-loop-e l = (e : ℕ) → (bit_in l.under e ≡ 1)
    ↔ ((e < l.e) × (get_or l.z e (pos 0) <ℤ pos 0))
