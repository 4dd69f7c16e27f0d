-- Chains of walks, one behind the other.
use Rattle.std.proofs.Common.{◌≡◌, ℕ, zero, suc, ◌+◌, ◌*◌, ◌^◌, ◌≤◌, List, ℤ, Option, Some, None, refl, subst, arith}
use Rattle.std.proofs.lemmas.Int.{ints}
use Rattle.std.specs.Prelude.{unwrap_or}
use Rattle.std.specs.List.{All}
use Rattle.sfm_spec.specs.Bounds.{IsAtMost}
use Rattle.sfm_spec.specs.Families.{Meaning}
use Rattle.sfm_spec.specs.Walks.{IsWalkChain}
use Rattle.sfm_stage.specs.Served.{IsServing}
use Rattle.sfm_exchange.specs.Scaled.{rows_times}

pub walks_join : (terms : List Meaning) (q : ℤ) (shift : List ℤ) (t t' : ℕ)
    (rows mid last : List (List ℤ)) → IsWalkChain terms q shift t rows mid
    → IsWalkChain terms q shift t' mid last → IsWalkChain terms q shift (t + t') rows last
walks_join terms q shift zero t' rows mid last h k =
    let e : t' ≡ 0 + t' = omega arith in
    subst (λ i. IsWalkChain terms q shift i rows last) e
    (subst (λ z. IsWalkChain terms q shift t' z last) h k)
walks_join terms q shift (suc t) t' rows mid last h k =
    let e : suc (t + t') ≡ suc t + t' = omega arith in
    subst (λ i. IsWalkChain terms q shift i rows last) e
    (h.0, h.1, walks_join terms q shift t t' h.0 mid last h.2 k)

-- no walk
pub serving_none : (terms : List Meaning) (low high : List ℤ) (rows : List (List ℤ))
    → IsServing terms low high 0 rows rows
serving_none terms low high rows =
    record {
      served = λ q shift b. refl;
      spread = λ m small. let e : m ≡ m + 0 * 10 ^
          20 = omega arith in subst (λ z. All (λ x. All (IsAtMost z) x) rows) e small;
    }

-- walks, and then further ones
pub serving_join : (terms : List Meaning) (low high : List ℤ) (t t' : ℕ)
    (rows mid last : List (List ℤ)) → IsServing terms low high t rows mid
    → IsServing terms low high t' mid last → IsServing terms low high (t + t') rows last
serving_join terms low high t t' rows mid last h k = record {
  served = λ q shift b. walks_join terms q shift t t' (rows_times q rows) (rows_times q mid)
      (rows_times q last) (h.served q shift b) (k.served q shift b);
  spread = λ m small. let e : m + t * 10 ^ 20 + t' * 10 ^ 20 ≡ m + (t + t') * 10 ^
      20 = omega arith in subst (λ z. All (λ x. All (IsAtMost z) x) last) e
      (k.spread (m + t * 10 ^ 20) (h.spread m small));
}

-- entries are small still, where those at first are and the walks are few
pub small_still : (m : ℕ) {terms : List Meaning} {low high : List ℤ} {t : ℕ}
    {before after : List (List ℤ)} → IsServing terms low high t before after
    → All (λ x. All (IsAtMost (10 ^ 25)) x) before
    → 10 ^ 25 + t * 10 ^ 20 ≤ m → All (λ x. All (IsAtMost m) x) after
small_still m h small wide k d l i e lt =
    let s = h.spread (10 ^ 25) small k d l i e lt in
    record { low = omega (arith, ints, s.low, wide); high = omega (arith, ints, s.high, wide) }

-- where there is no number, none counts
pub unwrap_none : (o : Option ℕ) → ((x : ℕ) → o ≡ Some x → ⊥) → unwrap_or o 0 ≡ 0
unwrap_none None other = refl
unwrap_none (Some x) other = absurd (other x refl)
