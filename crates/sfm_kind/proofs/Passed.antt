-- A factor and an amount that is moved are small, so that they are passed on in 128 bits as they
-- are.
use Rattle.std.proofs.Common.{◌≡◌, ◌^◌, ℤ, pos, ◌≤ℤ◌, to_z, of_z, arith}
use Rattle.std.specs.Int.{w128}
use Rattle.std.proofs.lemmas.Int.{ints}
use Rattle.sfm_spec.specs.Bounds.{IsFactor}

pub factor_kept : (q : ℤ) → IsFactor q → to_z w128 (of_z w128 q) ≡ q
factor_kept q factor = omega (arith, ints)

pub amount_kept : (a : ℤ) → pos 0 ≤ℤ a → a ≤ℤ pos (10 ^ 30) → to_z w128 (of_z w128 a) ≡ a
amount_kept a low high = omega (arith, ints)
