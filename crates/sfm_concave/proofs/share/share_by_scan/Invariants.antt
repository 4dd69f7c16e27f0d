use Rattle.sfm_concave.proofs.Shares.{IsScanned}
use Rattle.sfm_concave.proofs.share.share_by_scan.Given as goal

-- the rest is still to be added
abbrev pub invariant-loop-a : goal.invariant-loop-a
invariant-loop-a l = IsScanned l.bar l.x l.a-index l.count l.sum
