use Rattle.std.proofs.Common.{◌≡◌, ℕ, suc, ◌+◌, ◌-◌, ◌*◌, ◌<◌, ◌≤◌, ◌^◌, List, length, get_or, take, ap, ◌∙◌, arith}
use Rattle.std.specs.Char.{digit_value}
use Rattle.std.specs.Str.Parse.{AllDigits, digits_value}
use Rattle.std.proofs.Math.Nat.{pow-le-pow_right, pow-suc}
use Rattle.std.proofs.lemmas.Int.Digits.{digits_more, digits_value_more}
use Rattle.std.proofs.lemmas.Str.{digit_value_digit}
use Rattle.std.proofs.lemmas.Str.Parse.{digit_from_value}
use Rattle.sfm_readback.proofs.short.digits_at.Goals as goal

short : (v i k : ℕ) → v < 10 ^ i → i ≤ k → v < 10 ^ k
short v i k h le = omega (arith, h, pow-le-pow_right {n = 10} (omega arith) {i = i} {j = k} le)

-- a digit behind digits makes ten times their value, and itself
more : (bytes : List ℕ) (i v : ℕ) → i < length bytes → AllDigits 10 (take i bytes)
    → v ≡ digits_value 10 (take i bytes) → v < 10 ^ i → digit_value (get_or bytes i 0) < 10
    → AllDigits 10 (take (i + 1) bytes)
    × (v * 10 + (get_or bytes i 0 - 48) ≡ digits_value 10 (take (i + 1) bytes))
    × (v * 10 + (get_or bytes i 0 - 48) < 10 ^ (i + 1))
more bytes i v l all is small h =
    let code = digit_value_digit (get_or bytes i 0) (digit_from_value (get_or bytes i 0) h) in
    let digit : get_or bytes i 0 - 48 ≡ digit_value (get_or bytes i 0) = omega (arith, code) in
    let step : i + 1 ≡ suc i = omega arith in
    let power : 10 ^ (i + 1) ≡ 10 ^ i * 10 = ap (λ n. 10 ^ n) step ∙ pow-suc 10 i in (
      digits_more 10 bytes i l all h,
      omega (arith, digits_value_more 10 bytes i l, digit, is),
      omega (arith, digit, h, small, power),
    )

pub overflow_mul-value : goal.overflow_mul-value
overflow_mul-value c = omega (
  arith,
  short c.loop-len.value c.loop-len.len 17 c.loop-len.invariant.3
      (omega (arith, c.min-most.ensures, c.loop-len-test.true)),
)

pub overflow_add-value : goal.overflow_add-value
overflow_add-value c =
    omega (
      arith,
      short c.loop-len.value c.loop-len.len 17 c.loop-len.invariant.3
          (omega (arith, c.min-most.ensures, c.loop-len-test.true)),
      c.type_inv.bytes c.loop-len.len,
    )

pub loop-len-preserved : goal.loop-len-preserved
loop-len-preserved c =
    let i = c.loop-len.invariant in
    let inside : c.loop-len.len < length
    c.args.bytes.now = omega (arith, c.min-most.ensures, c.loop-len-test.true) in
    let m = more c.args.bytes.now c.loop-len.len c.loop-len.value inside i.1 i.2 i.3
    c.if-is_ascii_digit.ensures.bound in
    (omega (arith, c.loop-len-test.true), m.0, m.1, m.2)

pub returns-else-is_ascii_digit-clause-small : goal.returns-else-is_ascii_digit-clause-small
returns-else-is_ascii_digit-clause-small c =
    short c.loop-len.value c.loop-len.len 18 c.loop-len.invariant.3
    (omega (arith, c.min-most.ensures, c.loop-len.invariant.0))

pub returns-after-loop-len-clause-small : goal.returns-after-loop-len-clause-small
returns-after-loop-len-clause-small c =
    short c.loop-len.value c.loop-len.len 18 c.loop-len.invariant.3
    (omega (arith, c.min-most.ensures, c.loop-len.invariant.0))
