use Rattle.sfm_concave.specs.ConcaveLaws.{scaled}
use Rattle.sfm_concave.proofs.LeastSoFar.{IsLeastOver, IsAmong}
use Rattle.sfm_concave.proofs.concave.Concave.least_slack_scanned.Given as goal

abbrev pub invariant-loop-a : goal.invariant-loop-a
invariant-loop-a l = IsLeastOver (scaled l.at.q l.self.values) l.at.x.now l.u l.v
    (IsAmong l.at.x.now 0 l.a-index) l.least
