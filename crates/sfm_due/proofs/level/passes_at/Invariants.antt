use Rattle.std.proofs.Common.{◌≡◌, take, ◌≤ℤ◌}
use Rattle.sfm_kind.specs.Limits.{total_size_of}
use Rattle.sfm_due.specs.Level.{level_limit}
use Rattle.sfm_due.proofs.level.passes_at.Given as goal

-- the sizes so far add to no more than the limit
abbrev pub invariant-loop-i : goal.invariant-loop-i
invariant-loop-i l = record {
  so_far : l.total ≡ total_size_of (take l.i l.terms);
  small : l.total ≤ℤ level_limit;
}
