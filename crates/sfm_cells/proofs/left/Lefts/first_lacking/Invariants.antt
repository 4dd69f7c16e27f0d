-- the demands of the list so far lack nothing
use Rattle.std.proofs.Common.{ℕ, ◌<◌, pos, ◌≤ℤ◌}
use Rattle.sfm_cells.specs.Splits.{amount_at}
use Rattle.sfm_cells.specs.Cells.{label_at}
use Rattle.sfm_cells.proofs.left.Lefts.first_lacking.Given as goal

abbrev pub invariant-loop-k : goal.invariant-loop-k
invariant-loop-k l = (j : ℕ) → j < l.k
    → amount_at l.self.lacks.items (label_at l.self.lacking.items j) ≤ℤ pos 0
