use Rattle.std.proofs.Common.{ℕ, List, Ok}
use Rattle.sfm_due.specs.Lined.{Lined}
use Rattle.sfm_pair.specs.Sides.{lined_of, IsMetJudged}
use Rattle.sfm_run.specs.Files.{answer_file, left_file, right_file}
use Rattle.sfm_run.specs.Task.{Task, ends, reads}
use Rattle.sfm_run.proofs.Joining.{goes_on, made, not_made, stops}
use Rattle.sfm_run.proofs.Opening.{answers, misses_answer}
use Rattle.sfm_run.proofs.prepare.prepare_met.Goals as goal

abbrev judged : Lined → Lined → List ℕ → Task
judged l r text = ends (IsMetJudged l.asked r.asked text)

abbrev behind_left : List ℕ → Lined → Lined → Task
behind_left answer l r = reads (answer_file answer) (judged l r)

abbrev rest : List ℕ → List ℕ → Lined → Task
rest right answer l = reads (right_file l right) (behind_left answer l)

pub returns-in_err-left : goal.returns-in_err-left
returns-in_err-left g c = stops lined_of (left_file c.args.left.now)
    (rest c.args.right.now c.args.answer.now) _ _
    c.from_residual.result c.in_err-left.field-0.0 c.in_err-left.ensures.opened
    c.from_residual.ensures.1

pub returns-in_err-right : goal.returns-in_err-right
returns-in_err-right g c =
    goes_on lined_of (left_file c.args.left.now) (rest c.args.right.now c.args.answer.now)
    c.in_ok-left.left _ _ _ _
    c.in_ok-left.ensures.opened
    (stops lined_of (right_file (lined_of c.in_ok-left.left) c.args.right.now)
    (behind_left c.args.answer.now (lined_of c.in_ok-left.left)) _ _
    c.from_residual-in_err-right.result c.in_err-right.field-0.0
    c.in_err-right.ensures.opened c.from_residual-in_err-right.ensures.1)

pub returns-in_err-text : goal.returns-in_err-text
returns-in_err-text g c =
    goes_on lined_of (left_file c.args.left.now) (rest c.args.right.now c.args.answer.now)
    c.in_ok-left.left _ _ _ _
    c.in_ok-left.ensures.opened
    (goes_on lined_of (right_file (lined_of c.in_ok-left.left) c.args.right.now)
    (behind_left c.args.answer.now (lined_of c.in_ok-left.left)) c.in_ok-right.right _ _ _ _
    c.in_ok-right.ensures.opened
    (misses_answer c.args.answer.now
    (judged (lined_of c.in_ok-left.left) (lined_of c.in_ok-right.right)) _ _
    c.from_residual-in_err-text.result c.in_err-text.field-0.0 c.in_err-text.ensures.kept
    c.in_err-text.ensures.read c.from_residual-in_err-text.ensures.1))

pub returns-in_err-due : goal.returns-in_err-due
returns-in_err-due g c =
    goes_on lined_of (left_file c.args.left.now) (rest c.args.right.now c.args.answer.now)
    c.in_ok-left.left _ _ _ _
    c.in_ok-left.ensures.opened
    (goes_on lined_of (right_file (lined_of c.in_ok-left.left) c.args.right.now)
    (behind_left c.args.answer.now (lined_of c.in_ok-left.left)) c.in_ok-right.right _ _ _ _
    c.in_ok-right.ensures.opened
    (answers c.args.answer.now (judged (lined_of c.in_ok-left.left) (lined_of c.in_ok-right.right))
    _ _
    c.in_ok-text.text _ c.in_ok-text.ensures.kept c.in_ok-text.ensures.read
    (λ text is. not_made (IsMetJudged (lined_of c.in_ok-left.left).asked
    (lined_of c.in_ok-right.right).asked text) _
    c.from_residual-in_err-due.result c.from_residual-in_err-due.ensures.1)))

pub returns : goal.returns
returns g c =
    goes_on lined_of (left_file c.args.left.now) (rest c.args.right.now c.args.answer.now)
    c.in_ok-left.left _ _ _
    (Ok c.in_ok-due.due) c.in_ok-left.ensures.opened
    (goes_on lined_of (right_file (lined_of c.in_ok-left.left) c.args.right.now)
    (behind_left c.args.answer.now (lined_of c.in_ok-left.left)) c.in_ok-right.right _ _ _
    (Ok c.in_ok-due.due) c.in_ok-right.ensures.opened
    (answers c.args.answer.now (judged (lined_of c.in_ok-left.left) (lined_of c.in_ok-right.right))
    _ _
    c.in_ok-text.text (Ok c.in_ok-due.due) c.in_ok-text.ensures.kept c.in_ok-text.ensures.read
    (λ text is. made (IsMetJudged (lined_of c.in_ok-left.left).asked
    (lined_of c.in_ok-right.right).asked text) c.in_ok-due.due _
    (c.in_ok-due.ensures text is))))
