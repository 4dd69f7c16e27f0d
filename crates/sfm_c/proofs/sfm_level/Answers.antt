use Rattle.sfm_c.specs.Calls.{IsDueToLevel}
use Rattle.sfm_c.proofs.Making.{gives}
use Rattle.sfm_c.proofs.sfm_level.Goals as goal

pub returns : goal.returns
returns c = gives (IsDueToLevel c.args.text.now) c.make_level.result _ c.give.result
    c.make_level.ensures c.give.ensures
