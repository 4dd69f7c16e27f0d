use Rattle.std.proofs.Common.{ℕ, ◌<◌, get_or, pos, ◌≤ℤ◌}
use Rattle.sfm_concave.specs.ConcaveLaws.{scaled}
use Rattle.sfm_concave.specs.Thresholds.{above, slack}
use Rattle.sfm_concave.proofs.concave.Concave.is_within_by.Given as goal

abbrev pub invariant-loop-a : goal.invariant-loop-a
invariant-loop-a l = (w : ℕ) → w < l.a-index
    → pos 0 ≤ℤ slack (scaled l.q l.self.values) l.x (above (get_or l.x w (pos 0)) l.x)
