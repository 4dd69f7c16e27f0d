use Rattle.sfm_c.specs.Calls.{IsDueToCheck}
use Rattle.sfm_c.proofs.Making.{gives}
use Rattle.sfm_c.proofs.sfm_check.Goals as goal

pub returns : goal.returns
returns c = gives (IsDueToCheck c.args.text.now c.args.answer.now) c.make_check.result _
    c.give.result c.make_check.ensures c.give.ensures
