-- the found demands so far
use Rattle.sfm_split.proofs.Searches.{IsFoundTo}
use Rattle.sfm_split.proofs.nodes.found_set.Given as goal

abbrev pub invariant-loop-i : goal.invariant-loop-i
invariant-loop-i l = IsFoundTo l.nodes l.set l.i
