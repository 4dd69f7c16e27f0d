-- the sum of the terms so far, which allow the set
use Rattle.sfm_check.proofs.Sums.{IsSumOfFirst}
use Rattle.sfm_check.proofs.worth.sum_at.Given as goal

abbrev pub invariant-loop-term : goal.invariant-loop-term
invariant-loop-term l = IsSumOfFirst l.terms l.set l.term-index l.sum
