-- the sum of the terms so far
use Rattle.std.proofs.Common.{◌≡◌, take}
use Rattle.sfm_spec.specs.Families.{meanings, sum_at}
use Rattle.sfm_slope.proofs.worth.sum_at.Given as goal

abbrev pub invariant-loop-term : goal.invariant-loop-term
invariant-loop-term g l = let t = g.T.Term in l.sum ≡ sum_at
    (meanings t.places t.value_of (take l.term-index l.terms)) l.set
