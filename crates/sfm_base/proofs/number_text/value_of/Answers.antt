-- before each step there are at most 30 digits
use Rattle.std.proofs.Common.{ℕ, ◌^◌, ◌<◌, ◌≤◌, arith}
use Rattle.std.proofs.Math.Nat.{pow-le-pow_right}
use Rattle.sfm_base.proofs.number_text.value_of.Goals as goal

short : (v i : ℕ) → v < 10 ^ i → i ≤ 30 → v < 10 ^ 30
short v i h k = omega (arith, h, pow-le-pow_right {n = 10} (omega arith) {i = i} {j = 30} k)

pub overflow_mul-value : goal.overflow_mul-value
overflow_mul-value c = omega (
  arith,
  short c.loop-digit.value c.loop-digit.digit-index c.loop-digit.invariant.2
      (omega (arith, c.loop-digit-test.true)),
)

pub overflow_add-value : goal.overflow_add-value
overflow_add-value c = omega (
  arith,
  short c.loop-digit.value c.loop-digit.digit-index c.loop-digit.invariant.2
      (omega (arith, c.loop-digit-test.true)),
  c.type_inv.digits c.loop-digit.digit-index,
)
