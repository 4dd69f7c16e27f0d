-- z as a list of numbers, one for each place.
use Rattle.std.specs.Prelude.{◌≡◌, ℕ, ◌<◌, List, length, slice_index_or, ℤ, pos}
use Rattle.sfm_spec.specs.Families.{Meaning, rest_at}

-- z at each of as many places as there are shifts
pub record IsRest (terms : List Meaning) (shift : List ℤ) (rows : List (List ℤ)) (z : List ℤ) : Type
    0 where
  pub places : length z ≡ length shift
  pub exact : (e : ℕ) → e < length z → slice_index_or z e (pos 0) ≡ rest_at terms rows shift e
