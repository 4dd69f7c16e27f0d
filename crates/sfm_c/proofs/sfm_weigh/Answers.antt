use Rattle.sfm_c.specs.Calls.{IsDueToWeigh}
use Rattle.sfm_c.proofs.Making.{gives}
use Rattle.sfm_c.proofs.sfm_weigh.Goals as goal

pub returns : goal.returns
returns c = gives (IsDueToWeigh c.args.text.now c.args.sizes.now) c.make_weigh.result _
    c.give.result c.make_weigh.ensures c.give.ensures
