use Rattle.std.proofs.Common.{ℕ, List}
use Rattle.sfm_text.specs.declared.reader.Numbered.{Numbered}
use Rattle.sfm_due.specs.Lined.{Lined}
use Rattle.sfm_due.specs.Meanings.{question_of}
use Rattle.sfm_pair.specs.Sides.{IsMetJudged}
use Rattle.sfm_pair.specs.Sides.{lined_of}
use Rattle.sfm_c.proofs.Pairing.{for_fault, lined}
use Rattle.sfm_c.proofs.pair.met_by.Goals as goal

abbrev behind : Numbered → List ℕ → Lined → List ℕ → ℕ → Type 0
behind left answer r = IsMetJudged (question_of left.instance) r.asked answer

pub returns-in-Ok : goal.returns-in-Ok
returns-in-Ok c = c.met_of.ensures c.args.right.now
    (lined c.args.right.now c.in-Ok.numbered c.in-Ok.ensures.read c.in-Ok.ensures.numbered)

pub returns-in-Err : goal.returns-in-Err
returns-in-Err c = for_fault (lined_of c.args.left.now) c.args.right.now
    (behind c.args.left.now c.args.answer.now)
    c.in-Err.end c.in-Err.ensures.refused c.due_for_end.result c.due_for_end.ensures
