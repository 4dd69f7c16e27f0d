use Rattle.sfm_due.specs.Due.{IsSolved}
use Rattle.sfm_c.specs.Calls.{IsDone}
use Rattle.sfm_c.proofs.Making.{for_instance}
use Rattle.sfm_c.proofs.make.make_solve.Goals as goal

pub returns-in-Ok : goal.returns-in-Ok
returns-in-Ok c = for_instance c.args.text.now c.in-Ok.instance c.in-Ok.ensures.read
    (λ asked. IsDone (IsSolved asked)) c.due_to_solve.result c.due_to_solve.ensures
