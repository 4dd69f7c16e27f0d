-- How many numbers below a bound pass a test.
use Rattle.std.proofs.Common.{ℕ, zero, suc, ◌+◌, Bool, cond}

abbrev pub unit_of : Bool → ℕ
unit_of b = cond b 1 0

abbrev pub count_below : ℕ → (ℕ → Bool) → ℕ
count_below zero p = 0
count_below (suc n) p = unit_of (p n) + count_below n p
