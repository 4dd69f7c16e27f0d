-- the steps so far have moved, and the next one begins where they end
use Rattle.std.proofs.Common.{◌≡◌, map, take}
use Rattle.sfm_spec.specs.Families.{meanings}
use Rattle.sfm_spec.specs.Walks.{IsWalkMove, last_of}
use Rattle.sfm_law.specs.Walk.{step_of}
use Rattle.sfm_walk.proofs.following.follow.Given as goal

abbrev pub invariant-loop-to : goal.invariant-loop-to
invariant-loop-to g l = let t = g.T.Term in let steps = map step_of
    (take l.to-index l.to-items) in record {
      at : l.from ≡ last_of l.walk.first steps;
      moved : IsWalkMove (meanings t.places t.value_of l.terms) l.initial.bases l.walk.first steps
          l.a
          l.bases;
    }
