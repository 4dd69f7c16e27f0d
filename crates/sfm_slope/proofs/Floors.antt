-- The floor of a slope.
use Rattle.std.proofs.Common.{zero, ◌<◌, ℤ, pos, negsuc, ◌*ℤ◌, ◌≤ℤ◌, arith}
use Rattle.std.proofs.Math.Nat.{lt-mul-div-succ, mul-div-le}
use Rattle.std.proofs.lemmas.Int.{ints}
use Rattle.std.specs.Int.{int_div_euclid}

pub floor-least : (p q : ℤ) → pos 1 ≤ℤ q → (q *ℤ int_div_euclid p q) ≤ℤ p
floor-least p (negsuc b) one = absurd (omega (arith, ints, one))
floor-least (pos a) (pos b) one = omega (arith, ints, mul-div-le a b)
floor-least (negsuc a) (pos b) one =
    let some : zero < b = omega (arith, ints, one) in omega (
      arith,
      ints,
      lt-mul-div-succ a {b = b} some,
    )
