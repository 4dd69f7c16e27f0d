use Rattle.std.proofs.Common.{◌≡◌, Ok}
use Rattle.sfm_due.specs.Due.{Question}
use Rattle.sfm_due.specs.Owing.{IsLevelled}
use Rattle.sfm_due.specs.Meanings.{question_of}
use Rattle.sfm_run.specs.Files.{level_file}
use Rattle.sfm_run.specs.Task.{Task}
use Rattle.sfm_run.specs.Tasks.{writes}
use Rattle.sfm_run.proofs.Joining.{goes_on, made, not_made, stops}
use Rattle.sfm_run.proofs.prepare.prepare_level.Goals as goal

abbrev rest : Question → Task
rest asked = writes (IsLevelled asked)

pub returns-in_err-instance : goal.returns-in_err-instance
returns-in_err-instance g c = stops question_of (level_file c.args.file.now) rest _ _
    c.from_residual.result c.in_err-instance.field-0.0 c.in_err-instance.ensures.opened
    c.from_residual.ensures.1

pub returns-in_err-due : goal.returns-in_err-due
returns-in_err-due g c =
    goes_on question_of (level_file c.args.file.now) rest c.in_ok-instance.instance _ _ _ _
    c.in_ok-instance.ensures.opened
    (not_made (λ written code. IsLevelled (question_of c.in_ok-instance.instance) written
    × (code ≡ 0)) _ c.from_residual-in_err-due.result c.from_residual-in_err-due.ensures.1)

pub returns : goal.returns
returns g c =
    goes_on question_of (level_file c.args.file.now) rest c.in_ok-instance.instance _ _ _
    (Ok c.in_ok-due.due) c.in_ok-instance.ensures.opened
    (made (λ written code. IsLevelled (question_of c.in_ok-instance.instance) written
    × (code ≡ 0)) c.in_ok-due.due _ c.in_ok-due.ensures)
