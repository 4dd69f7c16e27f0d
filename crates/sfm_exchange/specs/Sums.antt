-- What bases add up to, as a list of numbers, one for each place of the ground.
use Rattle.std.specs.Prelude.{◌≡◌, ℕ, ◌<◌, List, length, slice_index_or, ℤ, pos}
use Rattle.sfm_spec.specs.Families.{Meaning, base_sum_at}

-- the sum of the rows at each of n places
pub record AreSums (terms : List Meaning) (n : ℕ) (bases : List (List ℤ)) (sums : List ℤ) : Type
    0 where
  pub places : length sums ≡ n
  pub exact : (e : ℕ) → e < n → slice_index_or sums e (pos 0) ≡ base_sum_at terms bases e
