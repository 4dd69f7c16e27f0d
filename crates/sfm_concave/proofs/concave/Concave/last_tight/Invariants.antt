use Rattle.std.proofs.Common.{◌≡◌, ℕ, ◌<◌, ◌≤◌, pos}
use Rattle.sfm_concave.specs.ConcaveLaws.{scaled}
use Rattle.sfm_concave.specs.Thresholds.{slack_from}
use Rattle.sfm_concave.proofs.concave.Concave.last_tight.Given as goal

abbrev pub invariant-loop-i : goal.invariant-loop-i
invariant-loop-i l = (j : ℕ) → l.i ≤ j → j < l.own
    → slack_from (scaled l.at.q l.self.values) l.ranking.sorted.now j ≡ pos 0 → ⊥
