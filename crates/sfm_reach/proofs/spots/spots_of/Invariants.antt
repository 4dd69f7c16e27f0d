-- the spots of the terms so far
use Rattle.sfm_spec.specs.Families.{meanings}
use Rattle.sfm_reach.proofs.Spotting.{AreSpotsTo}
use Rattle.sfm_reach.proofs.spots.spots_of.Given as goal

abbrev pub invariant-loop-i : goal.invariant-loop-i
invariant-loop-i g l = let t = g.T.Term in AreSpotsTo (meanings t.places t.value_of l.terms) l.n l.i
    l.spots.items
