-- The text of a true answer is a right file, so it is valid.
use Rattle.std.proofs.Common.{length, ◌∙◌}
use Rattle.sfm_spec.specs.Laws.{ones}
use Rattle.sfm_cert.specs.Solved.{answer_of, form_of}
use Rattle.sfm_check.specs.Truth.{IsRightFile}
use Rattle.sfm_due.specs.Meanings.{meanings_of}
use Rattle.sfm_due.specs.Solving.{IsTrueAnswer}
use Rattle.sfm_due.proofs.demo.judged_answer.Goals as goal

pub unreachable-requires : goal.unreachable-requires
unreachable-requires c =
    let instance = c.args.instance.now in
    let sizes = ones (length instance.names) in
    let h : IsTrueAnswer instance sizes
    (answer_of c.in_ok-solved.solved) =
    rw (c.deref.ensures.value, c.in_ok-sizes.ensures.ones) at c.in_ok-solved.ensures in
    let right : IsRightFile (form_of instance) (meanings_of instance.terms) sizes
    c.as_slice.result.now = record {
      answer = answer_of c.in_ok-solved.solved;
      is_text = record {
        formed = h.formed;
        written = c.as_slice.ensures.value
            ∙ c.in_ok-file.ensures;
      };
      head = h.head;
      sections = h.sections;
    } in
    let (wrong, fault) = rw c.in-Invalid.is at c.in_ok-judge.ensures.verdict in
    wrong right
