use Rattle.std.proofs.Common.{FitsSigned}
use Rattle.std.proofs.lemmas.Int.{to_z-of_z}
use mir.Syntax.{w128}
use Rattle.sfm_concave.proofs.ConcaveRooms.{IsConcaveBase, concave_at, concave-capacity}
use Rattle.sfm_concave.proofs.concave.ConcavePlain.room_of.Goals as goal

pub returns : goal.returns
returns c =
    let r = c.requires in
    let fl : FitsSigned w128 c.least_slack.result = record { sfits = c.least_slack.type_inv } in
    let here : IsConcaveBase c.args.at.now.q c.args.self.now.values c.args.at.now.x.now = concave_at
    _ r.factor.low c.args.self.now.counted r.entries c.args.self.now.falling r.base in
    simp to_z-of_z (concave-capacity here c.args.u c.args.v r.from r.onto r.apart _
    c.least_slack.ensures)
