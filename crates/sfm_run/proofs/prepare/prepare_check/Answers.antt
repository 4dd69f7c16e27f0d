use Rattle.std.proofs.Common.{ℕ, List, Ok}
use Rattle.sfm_due.specs.Due.{IsJudged, Question}
use Rattle.sfm_due.specs.Meanings.{question_of}
use Rattle.sfm_run.specs.Files.{answer_file}
use Rattle.sfm_run.specs.Task.{Task, ends, reads}
use Rattle.sfm_run.specs.Tasks.{main_file}
use Rattle.sfm_run.proofs.Joining.{goes_on, made, not_made, stops}
use Rattle.sfm_run.proofs.Opening.{answers, misses_answer}
use Rattle.sfm_run.proofs.prepare.prepare_check.Goals as goal

abbrev judged : Question → List ℕ → Task
judged asked text = ends (IsJudged asked text)

abbrev rest : List ℕ → Question → Task
rest answer asked = reads (answer_file answer) (judged asked)

pub returns-in_err-instance : goal.returns-in_err-instance
returns-in_err-instance g c = stops question_of (main_file c.args.file.now)
    (rest c.args.answer.now) _ _ c.from_residual.result c.in_err-instance.field-0.0
    c.in_err-instance.ensures c.from_residual.ensures.1

pub returns-in_err-text : goal.returns-in_err-text
returns-in_err-text g c =
    goes_on question_of (main_file c.args.file.now) (rest c.args.answer.now)
    c.in_ok-instance.instance _ _ _ _ c.in_ok-instance.ensures
    (misses_answer c.args.answer.now (judged (question_of c.in_ok-instance.instance)) _ _
    c.from_residual-in_err-text.result c.in_err-text.field-0.0 c.in_err-text.ensures.kept
    c.in_err-text.ensures.read c.from_residual-in_err-text.ensures.1)

pub returns-in_err-due : goal.returns-in_err-due
returns-in_err-due g c =
    goes_on question_of (main_file c.args.file.now) (rest c.args.answer.now)
    c.in_ok-instance.instance _ _ _ _ c.in_ok-instance.ensures
    (answers c.args.answer.now (judged (question_of c.in_ok-instance.instance)) _ _
    c.in_ok-text.text _ c.in_ok-text.ensures.kept c.in_ok-text.ensures.read
    (λ text is. not_made (IsJudged (question_of c.in_ok-instance.instance) text) _
    c.from_residual-in_err-due.result c.from_residual-in_err-due.ensures.1))

pub returns : goal.returns
returns g c =
    goes_on question_of (main_file c.args.file.now) (rest c.args.answer.now)
    c.in_ok-instance.instance _ _ _ (Ok c.in_ok-due.due) c.in_ok-instance.ensures
    (answers c.args.answer.now (judged (question_of c.in_ok-instance.instance)) _ _
    c.in_ok-text.text (Ok c.in_ok-due.due) c.in_ok-text.ensures.kept c.in_ok-text.ensures.read
    (λ text is. made (IsJudged (question_of c.in_ok-instance.instance) text) c.in_ok-due.due _
    (c.in_ok-due.ensures text is)))
