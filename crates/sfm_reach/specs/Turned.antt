-- Rows turned round: for each place the set of the places from which a link leads to it.
use Rattle.std.specs.Prelude.{◌≡◌, ℕ, ◌<◌, List, length}
use Rattle.sfm_reach.specs.declared.bits.Bits.{Bits}
use Rattle.sfm_reach.specs.Bits.{bit_in, set_at}

-- for each place below 256 the set of those whose rows have it
pub record AreTurned (rows back : List Bits) : Type 0 where
  pub count : length back ≡ 256
  pub exact : (e t : ℕ) → t < 256 → bit_in (set_at back t) e ≡ bit_in (set_at rows e) t
