use Rattle.sfm_c.specs.Calls.{IsDueToSolve}
use Rattle.sfm_c.proofs.Making.{gives}
use Rattle.sfm_c.proofs.sfm_solve.Goals as goal

pub returns : goal.returns
returns c = gives (IsDueToSolve c.args.text.now) c.make_solve.result _ c.give.result
    c.make_solve.ensures c.give.ensures
