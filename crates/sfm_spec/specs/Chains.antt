-- What makes a list of slopes and sets all breakpoints in order, as one statement.
-- Textbook: Fujishige, Submodular Functions and Optimization, section 7 (principal partitions).
use Rattle.std.specs.Prelude.{◌↔◌, ℕ, ◌<◌, ◌≤◌, List, length, ℤ, ◌≤ℤ◌}
use Rattle.sfm_spec.specs.Sets.{empty_set}
use Rattle.sfm_spec.specs.Bounds.{total_of}
use Rattle.sfm_spec.specs.Families.{Meaning}
use Rattle.sfm_spec.specs.Laws.{Mark, SlopesNest, IsChain, AreBreakpoints}
use Rattle.sfm_spec.specs.Search.{AreLowest, mark_at}

-- chain of slopes: minimisers nest along ascending slopes; a list of slopes in lowest terms with
-- sets is all breakpoints in order exactly where each set is the greatest minimiser at its slope,
-- larger than the set before, which is the least one there, from the empty set to the whole; there
-- are at most n, and no denominator exceeds the sum of the sizes
pub record ChainLaws (terms : List Meaning) (n : ℕ) (sizes : List ℤ) : Type 0 where
  pub nested : SlopesNest terms n sizes
  pub exact : (marks : List Mark) → (IsChain terms n sizes (empty_set n) marks × AreLowest marks)
      ↔ AreBreakpoints terms n sizes marks
  pub few : (marks : List Mark) → AreBreakpoints terms n sizes marks → length marks ≤ n
  pub low : (marks : List Mark) → AreBreakpoints terms n sizes marks → (i : ℕ) → i < length marks
      → (mark_at marks i).den ≤ℤ total_of sizes
