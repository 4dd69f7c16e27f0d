-- The list of what bases add up to: what it has at each place, and that it is the only one.
use Rattle.std.proofs.Common.{◌≡◌, ℕ, zero, suc, ◌<◌, List, length, get_or, ℤ, pos, refl, sym, ◌∙◌, arith}
use Rattle.std.proofs.lemmas.List.{ext_get_or}
use Rattle.sfm_spec.specs.Families.{Meaning, base_sum_at}
use Rattle.sfm_squares.specs.Level.{IsSumOf}
use Rattle.sfm_level.specs.Sums.{first_values, sums_of}

pub length-first_values : (n : ℕ) (f : ℕ → ℤ) → length (first_values n f) ≡ n
length-first_values zero f = refl
length-first_values (suc n) f = let r = length-first_values n (λ e. f (suc e)) in omega (arith, r)

pub get_or-first_values : (n : ℕ) (f : ℕ → ℤ) (e : ℕ) → e < n
    → get_or (first_values n f) e (pos 0) ≡ f e
get_or-first_values zero f e l = absurd (omega (arith, l))
get_or-first_values (suc n) f zero l = refl
get_or-first_values (suc n) f (suc e) l =
    get_or-first_values n (λ k. f (suc k)) e (omega (arith, l))

module _ (terms : List Meaning) (n : ℕ) (bases : List (List ℤ)) where
  -- it is the sum of the bases
  pub sums_are : IsSumOf terms n bases (sums_of terms n bases)
  sums_are = record {
    places = length-first_values n (base_sum_at terms bases);
    exact = get_or-first_values n (base_sum_at terms bases);
  }

  -- and no other list is
  pub sums_only : (z : List ℤ) → IsSumOf terms n bases z → z ≡ sums_of terms n bases
  sums_only z sum = ext_get_or (pos 0) z (sums_of terms n bases)
      (sum.places ∙ sym sums_are.places)
      (λ e l. let le : e < n = rw sum.places at l in sum.exact e le ∙ sym (sums_are.exact e le))
