-- What a group gets at the most fits 128 bits.
use Rattle.std.proofs.Common.{◌^◌, ℤ, pos, ◌*ℤ◌, ◌≤ℤ◌, arith, FitsSigned}
use Rattle.std.proofs.lemmas.Int.{ints}
use Rattle.sfm_spec.proofs.Scaled.{times-mono}
use mir.Syntax.{w128}
use Rattle.sfm_spec.specs.Bounds.{IsAtMost}

pub bound_small : (m r : ℤ) → pos 0 ≤ℤ m → m ≤ℤ pos (10 ^ 24) → pos 0 ≤ℤ r → r ≤ℤ pos 256
    → IsAtMost (10 ^ 27) (m *ℤ r)
bound_small m r lm hm low high =
    let up = times-mono m r (pos 256) lm high in
    let under = times-mono m (pos 0) r lm low in
    record { low = omega (arith, ints, under); high = omega (arith, ints, up, hm) }

pub bound_fits : (a : ℤ) → IsAtMost (10 ^ 27) a → FitsSigned w128 a
bound_fits a h = omega (arith, ints)
