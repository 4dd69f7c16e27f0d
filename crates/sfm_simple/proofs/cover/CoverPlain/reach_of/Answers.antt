use Rattle.std.proofs.Common.{◌∙◌}
use Rattle.sfm_simple.proofs.CoverRooms.{cover-reach}
use Rattle.sfm_simple.proofs.cover.CoverPlain.reach_of.Goals as goal

pub returns-clause-reached : goal.returns-clause-reached
returns-clause-reached c =
    let r = c.requires in
    let s = c.args.self.now in
    let put = c.put_others_over.ensures in
    cover-reach c.args.at.now.q s.w r.factor.low s.low c.args.at.now.x.now r.base c.args.u r.from
    c.put_others_over.new.to (put.places ∙ r.room_for_answer) put.over
