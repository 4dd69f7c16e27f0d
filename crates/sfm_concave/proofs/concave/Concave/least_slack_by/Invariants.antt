use Rattle.std.proofs.Common.{◌<◌, length, get_or, pos}
use Rattle.sfm_concave.specs.ConcaveLaws.{scaled}
use Rattle.sfm_concave.specs.Rankings.{IsCut}
use Rattle.sfm_concave.proofs.LeastSoFar.{IsLeastOver, IsAmong}
use Rattle.sfm_concave.proofs.concave.Concave.least_slack_by.Given as goal

abbrev pub invariant-loop-i : goal.invariant-loop-i
invariant-loop-i l =
    IsLeastOver (scaled l.at.q l.self.values) l.at.x.now l.u l.v
    (IsAmong l.ranking.sorted.now l.i (length l.ranking.sorted.now)) l.least
    × (l.i < length l.ranking.sorted.now
    → IsCut (get_or l.ranking.sorted.now l.i (pos 0)) l.ranking.sorted.now l.upto)
