use Rattle.sfm_due.specs.Due.{IsSolved}
use Rattle.sfm_c.specs.Calls.{IsDone, IsDueForEdits}
use Rattle.sfm_c.proofs.Making.{for_instance}
use Rattle.sfm_c.proofs.make.make_edit.Goals as goal

pub returns-in-Ok : goal.returns-in-Ok
returns-in-Ok c = for_instance c.args.text.now c.in-Ok.instance c.in-Ok.ensures.read
    (λ asked. IsDueForEdits asked c.args.edits.now (λ edited. IsDone (IsSolved edited)))
    c.edit_by.result c.edit_by.ensures
