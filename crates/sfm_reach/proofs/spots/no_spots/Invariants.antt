-- the places so far have no spots
use Rattle.std.proofs.Common.{◌≡◌, [], replicate}
use Rattle.sfm_reach.proofs.spots.no_spots.Given as goal

abbrev pub invariant-loop-count : goal.invariant-loop-count
invariant-loop-count l = l.spots.items ≡ replicate l.count-index []
