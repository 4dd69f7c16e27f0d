-- Increments by the listed numbers.
use Rattle.std.proofs.Common.{◌≡◌, ℕ, zero, suc, ◌+◌, ◌-◌, ◌<◌, ◌≤◌, List, get_or, ℤ, pos, ◌-ℤ◌, refl, arith, ⊎_elim}
use Rattle.std.proofs.lemmas.Bool.{cases_lt}
use Rattle.sfm_concave.specs.ConcaveLaws.{increment, number_of, RisesAt}

pub number-listed : (g : List ℤ) (c : ℕ) → 1 ≤ c → number_of g c ≡ get_or g (c - 1) (pos 0)
number-listed g zero h = absurd (omega arith)
number-listed g (suc c) h = let e : suc c - 1 ≡ c = omega arith in rw e refl

pub increment-is : (g : List ℤ) (at : ℕ) → 2 ≤ at
    → (get_or g (at - 1) (pos 0) -ℤ get_or g (at - 2) (pos 0)) ≡ increment g at
increment-is g at h =
    let two : at - 1 - 1 ≡ at - 2 = omega arith in
    rw (number-listed g at (omega arith), number-listed g (at - 1) (omega arith), two) refl

-- no rise below a count, and none at it
pub none_more : (g : List ℤ) (n : ℕ) → ((i : ℕ) → i < n → RisesAt g i → ⊥) → (RisesAt g n → ⊥)
    → (i : ℕ) → i < n + 1 → RisesAt g i → ⊥
none_more g n below here i lt rises =
    ⊎_elim (λ l. below i l rises) (λ ge. (let e : i ≡ n = omega arith in here (rw (← e) rises)))
    (cases_lt i n)
