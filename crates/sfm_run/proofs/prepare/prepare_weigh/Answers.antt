use Rattle.std.proofs.Common.{◌≡◌, ℕ, List, ℤ, Ok}
use Rattle.sfm_due.specs.Due.{Question}
use Rattle.sfm_due.specs.Owing.{IsWeighed}
use Rattle.sfm_due.specs.Meanings.{question_of}
use Rattle.sfm_run.specs.Files.{sizes_file}
use Rattle.sfm_run.specs.Preparing.{items_of}
use Rattle.sfm_run.specs.Task.{Task, reads}
use Rattle.sfm_run.specs.Tasks.{main_file, writes}
use Rattle.sfm_run.proofs.Joining.{goes_on, made, not_made, stops}
use Rattle.sfm_run.proofs.prepare.prepare_weigh.Goals as goal

abbrev weighed : Question → List ℤ → Task
weighed asked w = writes (IsWeighed asked w)

abbrev rest : List ℕ → Question → Task
rest sizes asked = reads (sizes_file asked sizes) (weighed asked)

pub returns-in_err-instance : goal.returns-in_err-instance
returns-in_err-instance g c = stops question_of (main_file c.args.file.now) (rest c.args.sizes.now)
    _ _
    c.from_residual.result c.in_err-instance.field-0.0 c.in_err-instance.ensures
    c.from_residual.ensures.1

pub returns-in_err-sizes : goal.returns-in_err-sizes
returns-in_err-sizes g c =
    goes_on question_of (main_file c.args.file.now) (rest c.args.sizes.now)
    c.in_ok-instance.instance _ _ _ _
    c.in_ok-instance.ensures
    (stops items_of (sizes_file (question_of c.in_ok-instance.instance) c.args.sizes.now)
    (weighed (question_of c.in_ok-instance.instance)) _ _
    c.from_residual-in_err-sizes.result c.in_err-sizes.field-0.0
    c.in_err-sizes.ensures.opened c.from_residual-in_err-sizes.ensures.1)

pub returns-in_err-due : goal.returns-in_err-due
returns-in_err-due g c =
    goes_on question_of (main_file c.args.file.now) (rest c.args.sizes.now)
    c.in_ok-instance.instance _ _ _ _
    c.in_ok-instance.ensures
    (goes_on items_of (sizes_file (question_of c.in_ok-instance.instance) c.args.sizes.now)
    (weighed (question_of c.in_ok-instance.instance)) c.in_ok-sizes.sizes _ _ _ _
    c.in_ok-sizes.ensures.opened
    (not_made (λ written code. IsWeighed (question_of c.in_ok-instance.instance)
    c.in_ok-sizes.sizes.items written × (code ≡ 0)) _ c.from_residual-in_err-due.result
    c.from_residual-in_err-due.ensures.1))

pub returns : goal.returns
returns g c =
    goes_on question_of (main_file c.args.file.now) (rest c.args.sizes.now)
    c.in_ok-instance.instance _ _ _
    (Ok c.in_ok-due.due) c.in_ok-instance.ensures
    (goes_on items_of (sizes_file (question_of c.in_ok-instance.instance) c.args.sizes.now)
    (weighed (question_of c.in_ok-instance.instance)) c.in_ok-sizes.sizes _ _ _
    (Ok c.in_ok-due.due) c.in_ok-sizes.ensures.opened
    (made (λ written code. IsWeighed (question_of c.in_ok-instance.instance)
    c.in_ok-sizes.sizes.items written × (code ≡ 0)) c.in_ok-due.due _
    (rw c.deref.ensures.value at c.in_ok-due.ensures)))
