use Rattle.sfm_c.specs.Calls.{IsDueToMet}
use Rattle.sfm_c.proofs.Making.{gives}
use Rattle.sfm_c.proofs.sfm_met.Goals as goal

pub returns : goal.returns
returns c = gives (IsDueToMet c.args.left.now c.args.right.now c.args.answer.now) c.make_met.result
    _ c.give.result
    c.make_met.ensures c.give.ensures
