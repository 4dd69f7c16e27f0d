use Rattle.std.proofs.Common.{◌≡◌, ℕ, List, Ok}
use Rattle.sfm_due.specs.Lined.{Lined}
use Rattle.sfm_pair.specs.Pair.{IsMeeting}
use Rattle.sfm_pair.specs.Sides.{lined_of}
use Rattle.sfm_run.specs.Files.{left_file, right_file}
use Rattle.sfm_run.specs.Task.{Task, reads}
use Rattle.sfm_run.specs.Tasks.{writes}
use Rattle.sfm_run.proofs.Joining.{goes_on, made, not_made, stops}
use Rattle.sfm_run.proofs.prepare.prepare_meet.Goals as goal

abbrev met : Lined → Lined → Task
met l r = writes (IsMeeting l.asked r.asked)

abbrev rest : List ℕ → Lined → Task
rest right l = reads (right_file l right) (met l)

pub returns-in_err-left : goal.returns-in_err-left
returns-in_err-left g c = stops lined_of (left_file c.args.left.now) (rest c.args.right.now) _ _
    c.from_residual.result c.in_err-left.field-0.0 c.in_err-left.ensures.opened
    c.from_residual.ensures.1

pub returns-in_err-right : goal.returns-in_err-right
returns-in_err-right g c =
    goes_on lined_of (left_file c.args.left.now) (rest c.args.right.now) c.in_ok-left.left _ _ _ _
    c.in_ok-left.ensures.opened
    (stops lined_of (right_file (lined_of c.in_ok-left.left) c.args.right.now)
    (met (lined_of c.in_ok-left.left)) _ _
    c.from_residual-in_err-right.result c.in_err-right.field-0.0
    c.in_err-right.ensures.opened c.from_residual-in_err-right.ensures.1)

pub returns-in_err-due : goal.returns-in_err-due
returns-in_err-due g c =
    goes_on lined_of (left_file c.args.left.now) (rest c.args.right.now) c.in_ok-left.left _ _ _ _
    c.in_ok-left.ensures.opened
    (goes_on lined_of (right_file (lined_of c.in_ok-left.left) c.args.right.now)
    (met (lined_of c.in_ok-left.left)) c.in_ok-right.right _ _ _ _
    c.in_ok-right.ensures.opened
    (not_made (λ written code. IsMeeting (lined_of c.in_ok-left.left).asked
    (lined_of c.in_ok-right.right).asked written
    × (code ≡ 0)) _ c.from_residual-in_err-due.result c.from_residual-in_err-due.ensures.1))

pub returns : goal.returns
returns g c =
    goes_on lined_of (left_file c.args.left.now) (rest c.args.right.now) c.in_ok-left.left _ _ _
    (Ok c.in_ok-due.due) c.in_ok-left.ensures.opened
    (goes_on lined_of (right_file (lined_of c.in_ok-left.left) c.args.right.now)
    (met (lined_of c.in_ok-left.left)) c.in_ok-right.right _ _ _
    (Ok c.in_ok-due.due) c.in_ok-right.ensures.opened
    (made (λ written code. IsMeeting (lined_of c.in_ok-left.left).asked
    (lined_of c.in_ok-right.right).asked written
    × (code ≡ 0)) c.in_ok-due.due _ c.in_ok-due.ensures))
