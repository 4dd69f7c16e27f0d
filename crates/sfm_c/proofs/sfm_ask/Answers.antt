use Rattle.sfm_c.specs.Calls.{IsDueToAsk}
use Rattle.sfm_c.proofs.Making.{gives}
use Rattle.sfm_c.proofs.sfm_ask.Goals as goal

pub returns : goal.returns
returns c = gives (IsDueToAsk c.args.text.now c.args.pins.now) c.make_ask.result _ c.give.result
    c.make_ask.ensures c.give.ensures
