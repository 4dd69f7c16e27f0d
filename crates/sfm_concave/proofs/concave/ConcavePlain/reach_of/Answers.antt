use Rattle.std.proofs.Common.{◌∙◌}
use Rattle.sfm_concave.proofs.ConcaveRooms.{IsConcaveBase, concave_at, reach_by_bar}
use Rattle.sfm_concave.proofs.concave.ConcavePlain.reach_of.Goals as goal

pub returns-clause-reached : goal.returns-clause-reached
returns-clause-reached c =
    let r = c.requires in
    let here : IsConcaveBase c.args.at.now.q c.args.self.now.values c.args.at.now.x.now = concave_at
    _ r.factor.low c.args.self.now.counted r.entries c.args.self.now.falling r.base in
    reach_by_bar here c.args.u r.from c.bar.result c.put_others_over.new.to
    (c.put_others_over.ensures.places ∙ r.room_for_answer) c.bar.ensures
    c.put_others_over.ensures.over
