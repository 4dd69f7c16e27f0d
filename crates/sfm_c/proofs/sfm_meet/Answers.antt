use Rattle.sfm_c.specs.Calls.{IsDueToMeet}
use Rattle.sfm_c.proofs.Making.{gives}
use Rattle.sfm_c.proofs.sfm_meet.Goals as goal

pub returns : goal.returns
returns c = gives (IsDueToMeet c.args.left.now c.args.right.now) c.make_meet.result _ c.give.result
    c.make_meet.ensures c.give.ensures
