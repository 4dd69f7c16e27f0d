-- How much each element counts.
use Rattle.std.specs.Prelude.{◌≡◌, ℕ, ◌^◌, List, length, ℤ, pos, ◌≤ℤ◌}
use Rattle.std.specs.List.{All}
use Rattle.sfm_spec.specs.Bounds.{total_of}

-- the sizes of n elements: from 1, and together at most 1,000,000
pub record AreElementSizes (n : ℕ) (sizes : List ℤ) : Type 0 where
  pub places : length sizes ≡ n
  pub positive : All (λ w. pos 1 ≤ℤ w) sizes
  pub small : total_of sizes ≤ℤ pos (10 ^ 6)
