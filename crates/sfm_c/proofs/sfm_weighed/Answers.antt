use Rattle.sfm_c.specs.Calls.{IsDueToCheckWeighed}
use Rattle.sfm_c.proofs.Making.{gives}
use Rattle.sfm_c.proofs.sfm_weighed.Goals as goal

pub returns : goal.returns
returns c = gives (IsDueToCheckWeighed c.args.text.now c.args.sizes.now c.args.answer.now)
    c.make_weighed.result _ c.give.result c.make_weighed.ensures c.give.ensures
