-- The slack of a table fits 128 bits.
use Rattle.std.proofs.Common.{◌^◌, ℤ, ◌-ℤ◌, arith, FitsSigned}
use Rattle.std.proofs.lemmas.Int.{ints}
use mir.Syntax.{w128}
use Rattle.sfm_spec.specs.Bounds.{IsAtMost}

pub slack_fits : (a b : ℤ) → IsAtMost (10 ^ 27) a → IsAtMost (10 ^ 31) b → FitsSigned w128 (a -ℤ b)
slack_fits a b g h = omega (arith, ints)
