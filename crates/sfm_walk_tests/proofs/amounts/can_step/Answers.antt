use Rattle.std.proofs.Common.{◌≢◌, FitsSigned}
use Rattle.std.proofs.lemmas.Int.{to_z-of_z}
use mir.Syntax.{w128}
use Rattle.sfm_law.proofs.Rooms.{base_within_room}
use Rattle.sfm_walk_tests.proofs.amounts.can_step.Goals as goal

pub returns-in-Ok : goal.returns-in-Ok
returns-in-Ok g c = λ yes.
    let fa : FitsSigned w128 c.args.a = c.ranges.a in
    let t = g.T.Term in
    let u = c.in-Some.u in
    let v = c.in-Some-local_of.v in
    let (lu, begins) = rw c.elements.ensures at c.in-Some.ensures in
    let (lv, ends) = rw c.elements-2.ensures at c.in-Some-local_of.ensures in
    let apart : u ≢ v = c.if-u-v.false in
    let within = simp to_z-of_z at (c.is_within.ensures yes) in
    let r = c.requires in (
      u,
      v,
      lu,
      lv,
      begins,
      ends,
      apart,
      base_within_room c.args.a r.based.base (rw r.based.entries lu) (rw r.based.entries lv) apart
          r.low (c.in-Ok.room, c.in-Ok.ensures.room, within),
    )
