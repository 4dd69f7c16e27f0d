-- Two writes to a list of two numbers.
use Rattle.std.proofs.Common.{◌≡◌, List, [], ◌∷◌, length, set, ℤ, arith, refl}

pub both_written : (x : List ℤ) (a b : ℤ) → length x ≡ 2 → set (set x 0 a) 1 b ≡ a ∷ b ∷ []
both_written [] a b two = absurd (omega arith)
both_written (d ∷ []) a b two = absurd (omega arith)
both_written (d ∷ e ∷ []) a b two = refl
both_written (d ∷ e ∷ f ∷ x) a b two = absurd (omega arith)
