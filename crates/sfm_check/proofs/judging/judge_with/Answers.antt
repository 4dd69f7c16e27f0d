use Rattle.std.proofs.Common.{length, Result, Ok, Err, arith, refl}
use Rattle.std.specs.Prelude.{IfOk, codes}
use Rattle.sfm_spec.specs.Families.{meanings}
use Rattle.sfm_kind.specs.Kinds.{kind_places, kind_value}
use Rattle.sfm_cert.specs.Header.{header_text}
use Rattle.sfm_cert.specs.Solved.{answer_of, form_with}
use Rattle.sfm_cert.proofs.AnyHeader.{formed_any}
use Rattle.sfm_readback.proofs.BadLines.{header_line}
use Rattle.sfm_check.proofs.AllSlopes.{fit}
use Rattle.sfm_check.proofs.Short.{right_short}
use Rattle.sfm_check.proofs.Telling.{few_by_text, found_verdict}
use Rattle.sfm_check.proofs.judging.judge_with.Goals as goal

-- what follows from each good answer of a call
if_ok : {X E : Type 0} (r : Result X E) (P Q : X → Type 0) → ((x : X) → P x → Q x) → IfOk r P
    → IfOk r Q
if_ok (Ok x) P Q f h = f x h
if_ok (Err e) P Q f h = tt

pub judge_solved-requires-clause-few : goal.judge_solved-requires-clause-few
judge_solved-requires-clause-few c =
    few_by_text (form_with (header_text c.args.header) c.args.instance.now) c.args.text.now
    (answer_of c.in-Ok.solved) c.in-Ok.ensures.read c.if-text-gt-ANSWER_LIMIT.false

pub judge_solved-requires-clause-offer : goal.judge_solved-requires-clause-offer
judge_solved-requires-clause-offer c = record {
  sizes = c.requires.sizes;
  formed = formed_any c.args.instance.now (header_text c.args.header) (codes "answer 1")
      c.in-Ok.ensures.read.formed;
}

pub returns-in-Ok-clause-verdict : goal.returns-in-Ok-clause-verdict
returns-in-Ok-clause-verdict c =
    let instance = c.args.instance.now in
    let header = header_text c.args.header in
    let kept = c.tell_kept.ensures in
    if_ok c.judge_solved.result _ _
    (λ v found. found_verdict (form_with header instance)
    (meanings kind_places kind_value instance.terms) c.args.sizes.now c.args.text.now
    (answer_of c.in-Ok.solved) (header_line c.args.header) kept.named
    (fit (length instance.names) instance.terms kept.bounded) c.requires.sizes c.in-Ok.ensures.read
    c.if-text-gt-ANSWER_LIMIT.false v (found header))
    c.judge_solved.ensures

pub returns-in-Ok-clause-short : goal.returns-in-Ok-clause-short
returns-in-Ok-clause-short c =
    if_ok c.judge_solved.result _ _ (λ v found valid. c.if-text-gt-ANSWER_LIMIT.false)
    c.judge_solved.ensures

-- a text that is too long is not right
pub returns-then-text-gt-ANSWER_LIMIT-clause-verdict
    : goal.returns-then-text-gt-ANSWER_LIMIT-clause-verdict
returns-then-text-gt-ANSWER_LIMIT-clause-verdict c = (
  (λ r.
      let kept = c.tell_kept.ensures in
      let l = right_short c.args.header c.args.instance.now c.args.sizes.now c.args.text.now
      kept.named kept.bounded kept.lined c.requires.sizes r in
      let m = c.if-text-gt-ANSWER_LIMIT.true in
      omega (arith, l, m)),
  (refl, c.if-text-gt-ANSWER_LIMIT.true),
)
