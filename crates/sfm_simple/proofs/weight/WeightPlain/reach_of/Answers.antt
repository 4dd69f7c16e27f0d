use Rattle.std.proofs.Common.{◌∙◌}
use Rattle.sfm_simple.proofs.WeightRooms.{weight-reach}
use Rattle.sfm_simple.proofs.weight.WeightPlain.reach_of.Goals as goal

pub returns-clause-reached : goal.returns-clause-reached
returns-clause-reached c =
    let r = c.requires in
    rw c.clear.ensures (weight-reach c.args._at.now.q c.args.self.now.weights c.args._u _
    (r.entries ∙ c.args.self.now.same_count) r.base r.from r.room_for_answer)
