-- What a set is worth.
use Rattle.std.specs.Prelude.{◌≡◌, List, ℤ}
use Rattle.sfm_spec.specs.Sets.{size, sum_over}
use Rattle.sfm_spec.specs.Bounds.{IsGiven}
use Rattle.sfm_spec.specs.Families.{Meaning, IsAllowed, sum_at}
use Rattle.sfm_slope.specs.declared.worth.Worth.{Worth}

-- how many members it has, what these count by their sizes, and the sum of all terms there
pub record IsWorth (terms : List Meaning) (sizes : List ℤ) (w : Worth) : Type 0 where
  pub allowed : IsAllowed terms w.set
  pub size : w.size ≡ size w.set
  pub weight : w.weight ≡ sum_over w.set sizes
  pub sum : w.sum ≡ sum_at terms w.set
  pub small : IsGiven w.sum
