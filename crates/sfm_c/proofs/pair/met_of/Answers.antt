use Rattle.std.proofs.Common.{ℕ, List}
use Rattle.sfm_text.specs.declared.reader.Numbered.{Numbered}
use Rattle.sfm_due.specs.Lined.{Lined}
use Rattle.sfm_due.specs.Meanings.{question_of}
use Rattle.sfm_pair.specs.Sides.{IsMetJudged}
use Rattle.sfm_c.proofs.Pairing.{for_both, for_clash}
use Rattle.sfm_c.proofs.pair.met_of.Goals as goal

abbrev behind : Numbered → List ℕ → Lined → List ℕ → ℕ → Type 0
behind left answer r = IsMetJudged (question_of left.instance) r.asked answer

pub returns-in_ok-refuse_clash-in-Some : goal.returns-in_ok-refuse_clash-in-Some
returns-in_ok-refuse_clash-in-Some c = λ text is. for_clash c.args.left.now c.args.right.now text
    c.in-Some.clash c.in-Some.line c.in-Some.ensures is (behind c.args.left.now c.args.answer.now)
    c.in_ok-refuse_clash-in-Some.field-0 c.in_ok-refuse_clash-in-Some.ensures

pub returns-in-None : goal.returns-in-None
returns-in-None c = λ text is. for_both c.args.left.now c.args.right.now text c.requires.left
    c.requires.right
    c.in-None.ensures is (behind c.args.left.now c.args.answer.now) c.met_judged.result
    c.met_judged.ensures
