-- Lemmas on counts of faults.
use Rattle.std.proofs.Common.{◌≡◌, refl, ℕ, zero, suc, ◌≤◌, inl, inr, arith, List, [], ◌∷◌, true}
use Rattle.std.proofs.lemmas.Bool.Decides.{nat_tests}
use Rattle.std.specs.Prelude.{Contains}
use Rattle.sfm_io.specs.Faults.{counted, Rose, are_past}

-- a count that is raised rose
pub Rose-counted : (n : ℕ) → Rose n (counted n)
Rose-counted n = grind arith

-- a count that rose later rose
pub Rose_later : (a b c : ℕ) → a ≤ b → Rose b c → Rose a c
Rose_later a b c le h = elim h [ inl l ↦ inl (omega arith) | inr e ↦ inr e ]

-- where no listed call is still to come, none is after more calls
pub are_past_later : (failing : List ℕ) (m n : ℕ) → m ≤ n → are_past failing m ≡ true
    → are_past failing n ≡ true
are_past_later [] m n le past = refl
are_past_later (k ∷ failing) m n le past = grind (arith, nat_tests, are_past_later failing m n le)

-- where no listed call is still to come, a call that is listed was made
pub past-Contains : (failing : List ℕ) (m n : ℕ) → are_past failing m ≡ true → Contains failing n
    → n ≤ m
past-Contains [] m n past (i, lt, e) = omega arith
past-Contains (k ∷ failing) m n past (zero, lt, e) = grind (arith, nat_tests)
past-Contains (k ∷ failing) m n past (suc i, lt, e) =
    past-Contains failing m n (grind (arith, nat_tests)) (i, omega arith, e)
