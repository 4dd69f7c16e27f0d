use Rattle.std.proofs.Common.{◌∙◌}
use Rattle.sfm_simple.proofs.WeightRooms.{weight-capacity}
use Rattle.sfm_simple.proofs.weight.WeightPlain.room_of.Goals as goal

pub returns : goal.returns
returns c =
    let r = c.requires in
    weight-capacity c.args._at.now.q c.args.self.now.weights
    (r.entries ∙ c.args.self.now.same_count) r.base r.from r.onto r.apart
