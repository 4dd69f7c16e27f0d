-- the entries so far are in the ratio of the factors
use Rattle.sfm_check.specs.Findings.{AreInRatio}
use Rattle.sfm_check.proofs.bases.are_in_ratio.Given as goal

abbrev pub invariant-loop-i : goal.invariant-loop-i
invariant-loop-i l = AreInRatio l.i l.at.q l.at.x.now l.known.q l.known.x.now
