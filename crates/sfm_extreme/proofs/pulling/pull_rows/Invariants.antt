-- the rows of the places so far
use Rattle.std.proofs.Common.{◌≡◌, ℕ, ◌<◌, length}
use Rattle.sfm_extreme.specs.Pulls.{IsPullSet, row_of}
use Rattle.sfm_extreme.proofs.pulling.pull_rows.Given as goal

abbrev pub invariant-loop-e : goal.invariant-loop-e
invariant-loop-e l = (length l.rows.items ≡ l.e)
    × ((e : ℕ) → e < l.e → IsPullSet l.unions l.outside e (row_of l.rows.items e))
