use Rattle.std.proofs.Common.{ℕ, List}
use Rattle.sfm_text.specs.declared.reader.Numbered.{Numbered}
use Rattle.sfm_due.specs.Lined.{Lined}
use Rattle.sfm_due.specs.Meanings.{question_of}
use Rattle.sfm_pair.specs.Pair.{IsMeeting}
use Rattle.sfm_c.specs.Calls.{IsDone}
use Rattle.sfm_c.proofs.Pairing.{for_both, for_clash}
use Rattle.sfm_c.proofs.pair.meet_of.Goals as goal

abbrev behind : Numbered → Lined → List ℕ → ℕ → Type 0
behind left r = IsDone (IsMeeting (question_of left.instance) r.asked)

pub returns-in_ok-refuse_clash-in-Some : goal.returns-in_ok-refuse_clash-in-Some
returns-in_ok-refuse_clash-in-Some c = λ text is. for_clash c.args.left.now c.args.right.now text
    c.in-Some.clash c.in-Some.line c.in-Some.ensures is (behind c.args.left.now)
    c.in_ok-refuse_clash-in-Some.field-0 c.in_ok-refuse_clash-in-Some.ensures

pub returns-in-None : goal.returns-in-None
returns-in-None c = λ text is. for_both c.args.left.now c.args.right.now text c.requires.left
    c.requires.right
    c.in-None.ensures is (behind c.args.left.now) c.due_to_meet.result c.due_to_meet.ensures
