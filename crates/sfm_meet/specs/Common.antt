-- Common vectors of two sums, and what bounds them.
-- Textbook: Schrijver, Combinatorial Optimization, section 46 (Edmonds' polymatroid intersection); Fujishige, Submodular Functions
-- and Optimization, section 4.
use Rattle.std.specs.Prelude.{◌≡◌, ℕ, Bool, List, length, ℤ, ◌+ℤ◌, ◌≤ℤ◌}
use Rattle.sfm_spec.specs.Sets.{sum_over, whole_set, complement, IsWithin}
use Rattle.sfm_spec.specs.Families.{Meaning, sum_at}

-- x gives no set more than either sum
pub record IsCommon (left right : List Meaning) (n : ℕ) (x : List ℤ) : Type 0 where
  pub places : length x ≡ n
  pub under_left : (s : List Bool) → length s ≡ n → sum_over s x ≤ℤ sum_at left s
  pub under_right : (s : List Bool) → length s ≡ n → sum_over s x ≤ℤ sum_at right s

-- a common vector, and none has a greater sum
pub record IsGreatestCommon (left right : List Meaning) (n : ℕ) (x : List ℤ) : Type 0 where
  pub common : IsCommon left right n x
  pub greatest : (y : List ℤ) → IsCommon left right n y → sum_over (whole_set n) y ≤ℤ sum_over (whole_set n) x

-- what one sum is on a set and the other on its rest
abbrev pub split_at : List Meaning → List Meaning → List Bool → ℤ
split_at left right s = sum_at left s +ℤ sum_at right (complement s)

-- v is the least of these, and t, which has it, lies within every set that has it
pub record IsLeastSplit (left right : List Meaning) (n : ℕ) (v : ℤ) (t : List Bool) : Type 0 where
  pub places : length t ≡ n
  pub value : split_at left right t ≡ v
  pub least : (s : List Bool) → length s ≡ n → v ≤ℤ split_at left right s
  pub within : (s : List Bool) → length s ≡ n → split_at left right s ≡ v → IsWithin t s
