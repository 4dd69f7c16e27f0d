-- How many digits numbers have.
use Rattle.std.proofs.Common.{◌≡◌, ℕ, ◌+◌, ◌<◌, ◌≤◌, ◌/◌, ◌%◌, ◌^◌, length, ap, ◌∙◌, arith}
use Rattle.std.specs.Fmt.{decimal}
use Rattle.std.proofs.lemmas.List.{length_push}
use Rattle.std.proofs.lemmas.Fmt.{decimal_step_wide, length-decimal-le_wide, decimal_nonempty}

-- a tenth of a number has a digit less
pub tenth : (n : ℕ) → 10 ≤ n → n < 2 ^ 128 → length (decimal n) ≡ length (decimal (n / 10)) + 1
tenth n h small = ap length (decimal_step_wide n h (omega (arith, small)))
    ∙ length_push (decimal (n / 10)) (48 + n % 10)

pub few_digits : (n : ℕ) → n < 2 ^ 128 → length (decimal n) ≤ 39
few_digits n small = length-decimal-le_wide 39 n (omega arith) (omega (arith, small))
    (omega (arith, small))

pub one_digit : (n : ℕ) → n < 10 → length (decimal n) ≡ 1
one_digit n lt =
    let most = length-decimal-le_wide 1 n (omega arith) (omega (arith, lt)) (omega (arith, lt)) in
    let some = decimal_nonempty n (omega (arith, lt)) in
    omega (arith, most, some)

pub two_digits : (n : ℕ) → 10 ≤ n → n < 100 → length (decimal n) ≡ 2
two_digits n ge lt = omega (
  arith,
  tenth n ge (omega (arith, lt)),
  one_digit (n / 10) (omega (arith, lt)),
)

pub three_digits : (n : ℕ) → 100 ≤ n → n < 1000 → length (decimal n) ≡ 3
three_digits n ge lt = omega (
  arith,
  tenth n (omega (arith, ge)) (omega (arith, lt)),
  two_digits (n / 10) (omega (arith, ge)) (omega (arith, lt)),
)

pub four_digits : (n : ℕ) → 1000 ≤ n → n < 10000 → length (decimal n) ≡ 4
four_digits n ge lt = omega (
  arith,
  tenth n (omega (arith, ge)) (omega (arith, lt)),
  three_digits (n / 10) (omega (arith, ge)) (omega (arith, lt)),
)

ten_thousandth : (n : ℕ) → n / 10 / 10 / 10 / 10 ≡ n / 10000
ten_thousandth n = omega arith

-- a number without its last four digits
pub four_less : (n : ℕ) → 10000 ≤ n → n < 2 ^ 128
    → length (decimal n) ≡ length (decimal (n / 10000)) + 4
four_less n ge small =
    let a = tenth n (omega (arith, ge)) small in
    let b = tenth (n / 10) (omega (arith, ge)) (omega (arith, small)) in
    let c = tenth (n / 10 / 10) (omega (arith, ge)) (omega (arith, small)) in
    let d = tenth (n / 10 / 10 / 10) (omega (arith, ge)) (omega (arith, small)) in
    let e = ap (λ m. length (decimal m)) (ten_thousandth n) in
    omega (arith, a, b, c, d, e)
