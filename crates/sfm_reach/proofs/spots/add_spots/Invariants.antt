-- the spots of the places so far
use Rattle.sfm_reach.specs.Spots.{AddsSpots}
use Rattle.sfm_reach.proofs.spots.add_spots.Given as goal

abbrev pub invariant-loop-local : goal.invariant-loop-local
invariant-loop-local l = AddsSpots l.places l.i l.local l.initial.spots.items l.spots.items
