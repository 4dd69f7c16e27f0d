-- the slope before is below the limit
use Rattle.std.proofs.Common.{◌≡◌, ℕ, suc, map, ◌<ℤ◌}
use Rattle.sfm_spec.specs.Search.{mark_at}
use Rattle.sfm_cert.specs.Answer.{mark_of}
use Rattle.sfm_cert.specs.Solved.{break_of}
use Rattle.sfm_check.proofs.minimum.count_below.Given as goal

abbrev pub invariant-loop-k : goal.invariant-loop-k
invariant-loop-k l = (j : ℕ) → suc j ≡ l.k
    → (mark_at (map mark_of (map break_of l.breaks)) j).num <ℤ l.limit
