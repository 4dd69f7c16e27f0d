use Rattle.std.proofs.Common.{ℕ, List, ℤ, Ok}
use Rattle.sfm_due.specs.Due.{Question}
use Rattle.sfm_due.specs.Owing.{IsJudgedBySizes}
use Rattle.sfm_due.specs.Meanings.{question_of}
use Rattle.sfm_run.specs.Files.{answer_file, sizes_file}
use Rattle.sfm_run.specs.Preparing.{items_of}
use Rattle.sfm_run.specs.Task.{Task, ends, reads}
use Rattle.sfm_run.specs.Tasks.{main_file}
use Rattle.sfm_run.proofs.Joining.{goes_on, made, not_made, stops}
use Rattle.sfm_run.proofs.Opening.{answers, misses_answer}
use Rattle.sfm_run.proofs.prepare.prepare_weighed.Goals as goal

abbrev judged : Question → List ℤ → List ℕ → Task
judged asked w text = ends (IsJudgedBySizes asked w text)

abbrev by_sizes : List ℕ → Question → List ℤ → Task
by_sizes answer asked w = reads (answer_file answer) (judged asked w)

abbrev rest : List ℕ → List ℕ → Question → Task
rest sizes answer asked = reads (sizes_file asked sizes) (by_sizes answer asked)

pub returns-in_err-instance : goal.returns-in_err-instance
returns-in_err-instance g c = stops question_of (main_file c.args.file.now)
    (rest c.args.sizes.now c.args.answer.now) _ _
    c.from_residual.result c.in_err-instance.field-0.0 c.in_err-instance.ensures
    c.from_residual.ensures.1

pub returns-in_err-sizes : goal.returns-in_err-sizes
returns-in_err-sizes g c =
    goes_on question_of (main_file c.args.file.now) (rest c.args.sizes.now c.args.answer.now)
    c.in_ok-instance.instance _ _ _ _
    c.in_ok-instance.ensures
    (stops items_of (sizes_file (question_of c.in_ok-instance.instance) c.args.sizes.now)
    (by_sizes c.args.answer.now (question_of c.in_ok-instance.instance)) _ _
    c.from_residual-in_err-sizes.result c.in_err-sizes.field-0.0
    c.in_err-sizes.ensures.opened c.from_residual-in_err-sizes.ensures.1)

pub returns-in_err-text : goal.returns-in_err-text
returns-in_err-text g c =
    goes_on question_of (main_file c.args.file.now) (rest c.args.sizes.now c.args.answer.now)
    c.in_ok-instance.instance _ _ _ _
    c.in_ok-instance.ensures
    (goes_on items_of (sizes_file (question_of c.in_ok-instance.instance) c.args.sizes.now)
    (by_sizes c.args.answer.now (question_of c.in_ok-instance.instance)) c.in_ok-sizes.sizes _ _
    _ _
    c.in_ok-sizes.ensures.opened
    (misses_answer c.args.answer.now
    (judged (question_of c.in_ok-instance.instance) c.in_ok-sizes.sizes.items) _ _
    c.from_residual-in_err-text.result c.in_err-text.field-0.0 c.in_err-text.ensures.kept
    c.in_err-text.ensures.read c.from_residual-in_err-text.ensures.1))

pub returns-in_err-due : goal.returns-in_err-due
returns-in_err-due g c =
    goes_on question_of (main_file c.args.file.now) (rest c.args.sizes.now c.args.answer.now)
    c.in_ok-instance.instance _ _ _ _
    c.in_ok-instance.ensures
    (goes_on items_of (sizes_file (question_of c.in_ok-instance.instance) c.args.sizes.now)
    (by_sizes c.args.answer.now (question_of c.in_ok-instance.instance)) c.in_ok-sizes.sizes _ _
    _ _
    c.in_ok-sizes.ensures.opened
    (answers c.args.answer.now (judged (question_of c.in_ok-instance.instance)
    c.in_ok-sizes.sizes.items) _ _
    c.in_ok-text.text _ c.in_ok-text.ensures.kept c.in_ok-text.ensures.read
    (λ text is. not_made (IsJudgedBySizes (question_of c.in_ok-instance.instance)
    c.in_ok-sizes.sizes.items text) _
    c.from_residual-in_err-due.result c.from_residual-in_err-due.ensures.1)))

pub returns : goal.returns
returns g c =
    goes_on question_of (main_file c.args.file.now) (rest c.args.sizes.now c.args.answer.now)
    c.in_ok-instance.instance _ _ _
    (Ok c.in_ok-due.due) c.in_ok-instance.ensures
    (goes_on items_of (sizes_file (question_of c.in_ok-instance.instance) c.args.sizes.now)
    (by_sizes c.args.answer.now (question_of c.in_ok-instance.instance)) c.in_ok-sizes.sizes _ _
    _
    (Ok c.in_ok-due.due) c.in_ok-sizes.ensures.opened
    (answers c.args.answer.now (judged (question_of c.in_ok-instance.instance)
    c.in_ok-sizes.sizes.items) _ _
    c.in_ok-text.text (Ok c.in_ok-due.due) c.in_ok-text.ensures.kept c.in_ok-text.ensures.read
    (λ text is. made (IsJudgedBySizes (question_of c.in_ok-instance.instance)
    c.in_ok-sizes.sizes.items text) c.in_ok-due.due _
    (rw c.deref.ensures.value at (c.in_ok-due.ensures text is)))))
