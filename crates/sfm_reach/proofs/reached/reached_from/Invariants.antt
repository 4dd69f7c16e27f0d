-- the search so far
use Rattle.std.proofs.Common.{length}
use Rattle.sfm_spec.specs.Progress.{sum_below}
use Rattle.sfm_reach.proofs.Searching.{IsLink, IsSearching, work}
use Rattle.sfm_reach.proofs.reached.reached_from.Given as goal

abbrev pub invariant-loop-e : goal.invariant-loop-e
invariant-loop-e l = IsSearching (length l.unions) (IsLink l.unions) l.firsts l.found l.ahead

abbrev pub decreases-loop-e : goal.decreases-loop-e
decreases-loop-e l = sum_below 256 (work l.found l.ahead)
