use Rattle.std.proofs.Common.{◌≡◌, ℕ, List, Ok}
use Rattle.sfm_ask.specs.Pinned.{IsAnswered}
use Rattle.sfm_side.specs.PinLines.{pins_of}
use Rattle.sfm_side.specs.Pins.{PinData}
use Rattle.sfm_due.specs.Due.{Question}
use Rattle.sfm_due.specs.Meanings.{question_of}
use Rattle.sfm_run.specs.Files.{pins_file}
use Rattle.sfm_run.specs.Task.{Task, reads}
use Rattle.sfm_run.specs.Tasks.{main_file, writes}
use Rattle.sfm_run.proofs.Joining.{goes_on, made, not_made, stops}
use Rattle.sfm_run.proofs.prepare.prepare_ask.Goals as goal

abbrev answered : Question → PinData → Task
answered asked p = writes (IsAnswered asked.instance.names asked.meant p)

abbrev rest : List ℕ → Question → Task
rest pins asked = reads (pins_file asked pins) (answered asked)

pub returns-in_err-instance : goal.returns-in_err-instance
returns-in_err-instance g c = stops question_of (main_file c.args.file.now) (rest c.args.pins.now) _
    _
    c.from_residual.result c.in_err-instance.field-0.0 c.in_err-instance.ensures
    c.from_residual.ensures.1

pub returns-in_err-pins : goal.returns-in_err-pins
returns-in_err-pins g c =
    goes_on question_of (main_file c.args.file.now) (rest c.args.pins.now) c.in_ok-instance.instance
    _ _ _ _
    c.in_ok-instance.ensures
    (stops pins_of (pins_file (question_of c.in_ok-instance.instance) c.args.pins.now)
    (answered (question_of c.in_ok-instance.instance)) _ _
    c.from_residual-in_err-pins.result c.in_err-pins.field-0.0
    c.in_err-pins.ensures.opened c.from_residual-in_err-pins.ensures.1)

pub returns-in_err-due : goal.returns-in_err-due
returns-in_err-due g c =
    goes_on question_of (main_file c.args.file.now) (rest c.args.pins.now) c.in_ok-instance.instance
    _ _ _ _
    c.in_ok-instance.ensures
    (goes_on pins_of (pins_file (question_of c.in_ok-instance.instance) c.args.pins.now)
    (answered (question_of c.in_ok-instance.instance)) c.in_ok-pins.pins _ _ _ _
    c.in_ok-pins.ensures.opened
    (not_made (λ written code. IsAnswered (question_of c.in_ok-instance.instance).instance.names
    (question_of c.in_ok-instance.instance).meant
    (pins_of c.in_ok-pins.pins) written × (code ≡ 0)) _ c.from_residual-in_err-due.result
    c.from_residual-in_err-due.ensures.1))

pub returns : goal.returns
returns g c =
    goes_on question_of (main_file c.args.file.now) (rest c.args.pins.now) c.in_ok-instance.instance
    _ _ _
    (Ok c.in_ok-due.due) c.in_ok-instance.ensures
    (goes_on pins_of (pins_file (question_of c.in_ok-instance.instance) c.args.pins.now)
    (answered (question_of c.in_ok-instance.instance)) c.in_ok-pins.pins _ _ _
    (Ok c.in_ok-due.due) c.in_ok-pins.ensures.opened
    (made (λ written code. IsAnswered (question_of c.in_ok-instance.instance).instance.names
    (question_of c.in_ok-instance.instance).meant
    (pins_of c.in_ok-pins.pins) written × (code ≡ 0)) c.in_ok-due.due _ c.in_ok-due.ensures))
