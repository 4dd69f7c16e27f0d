-- Places put into a set one after another.
use Rattle.std.proofs.Common.{◌≡◌, ◌≢◌, ◌↔◌, ℕ, ◌+◌, ◌<◌, Bool, false, List, length, set, ℤ, ◌<ℤ◌, IsTrue, ◌∙◌, arith, ⊎_elim, length-set, get_or-set_other, get_or-set_same}
use Rattle.std.specs.Int.Signed.{lt_z}
use Rattle.std.proofs.lemmas.Bool.{cases_lt, cases_Bool}
use Rattle.std.proofs.lemmas.Int.{ints}
use Rattle.sfm_spec.specs.Sets.{Has}

-- a place more is told
pub put_more : (P : ℕ → Type 0) (k : ℕ) (to : List Bool) (n : ℕ) (b : Bool) → length to ≡ k
    → ((e : ℕ) → e < n → Has to e ↔ P e) → n < k → IsTrue b ↔ P n
    → record {
      places : length (set to n b) ≡ k;
      exact : (e : ℕ) → e < n + 1 → Has (set to n b) e
          ↔ P e;
    }
put_more P k to n b same is lt here = record {
  places = length-set to n b ∙ same;
  exact = λ e h. ⊎_elim
      (λ l. let ne : e ≢ n = omega arith in rw (get_or-set_other to n e b false ne) (is e l))
      (λ ge. let i : e ≡ n = omega arith in rw (
        i,
        get_or-set_same to n b false (omega (arith, same)),
      ) here)
      (cases_lt e n);
}

-- a test of two numbers
pub less_test : (a b : ℤ) → IsTrue (lt_z a b) ↔ (a <ℤ b)
less_test a b = (
  (λ t. omega (arith, ints, t)),
  (λ h. ⊎_elim (λ t. t) (λ t. absurd (omega (arith, ints, t, h))) (cases_Bool (lt_z a b))),
)
