-- z of the terms so far
use Rattle.std.proofs.Common.{take}
use Rattle.sfm_spec.specs.Families.{meanings}
use Rattle.sfm_law.specs.Rest.{IsRest}
use Rattle.sfm_law.proofs.rest.rest_of.Given as goal

abbrev pub invariant-loop-i : goal.invariant-loop-i
invariant-loop-i g l = let t = g.T.Term in IsRest (meanings t.places t.value_of (take l.i l.terms))
    l.shift l.bases l.z.items
