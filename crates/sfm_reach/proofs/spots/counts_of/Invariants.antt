-- there is a count for each place
use Rattle.std.proofs.Common.{◌≡◌, length}
use Rattle.sfm_reach.proofs.spots.counts_of.Given as goal

abbrev pub invariant-loop-term : goal.invariant-loop-term
invariant-loop-term g l = length l.counts.items ≡ l.n
