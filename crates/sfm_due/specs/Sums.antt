-- At which term the sizes pass the most that a most level base is found for.
use Rattle.std.specs.Prelude.{◌≡◌, ℕ, ◌+◌, List, take, slice_get, Some, ◌≤ℤ◌, ◌<ℤ◌}
use Rattle.sfm_kind.specs.Limits.{total_size_of}
use Rattle.sfm_kind.specs.declared.kind.Kind.{Kind}
use Rattle.sfm_due.specs.Level.{level_limit}

-- up to the term of this line the sizes add to more, and before it they do not
pub record PassesAt (terms : List Kind) (lines : List ℕ) (line : ℕ) : Type 0 where
  pub i : ℕ
  pub line_is : slice_get lines i ≡ Some line
  pub before : total_size_of (take i terms) ≤ℤ level_limit
  pub more : level_limit <ℤ total_size_of (take (i + 1) terms)
