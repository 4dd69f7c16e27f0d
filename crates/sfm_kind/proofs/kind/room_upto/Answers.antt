use Rattle.std.proofs.Common.{rules, FitsSigned}
use Rattle.std.proofs.lemmas.Int.{to_z-of_z}
use mir.Syntax.{w128}
use Rattle.sfm_law.proofs.Rooms.{room_upto}
use Rattle.sfm_kind.proofs.kind.room_upto.Goals as goal

pub returns : goal.returns
returns c =
    let fa : FitsSigned w128 c.args.swap.now.a = search rules in
    let fr : FitsSigned w128 c.upto.result = search rules in
    let e = simp to_z-of_z at c.upto.ensures in
    let r = c.requires in
    simp to_z-of_z (room_upto c.in_ok-room.room c.args.swap.now.a c.upto.result r.based.base r.pair
    c.in_ok-room.ensures.room r.wanted e.high e.within e.greatest)
