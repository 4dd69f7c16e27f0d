use Rattle.std.proofs.Common.{length, Result, Ok, Err, arith, refl}
use Rattle.std.specs.Prelude.{IfOk}
use Rattle.sfm_meet.specs.Told.{met_of}
use Rattle.sfm_met.specs.Sums.{sum_of_instance}
use Rattle.sfm_met.proofs.Short.{met_short}
use Rattle.sfm_met.proofs.Verdicts.{found_verdict}
use Rattle.sfm_met.proofs.judging.judge_met.Goals as goal

-- what follows from each good answer of a call
if_ok : {X E : Type 0} (r : Result X E) (P Q : X → Type 0) → ((x : X) → P x → Q x) → IfOk r P
    → IfOk r Q
if_ok (Ok x) P Q f h = f x h
if_ok (Err e) P Q f h = tt

-- a text that is too long is not right
pub returns-then-text-gt-ANSWER_LIMIT : goal.returns-then-text-gt-ANSWER_LIMIT
returns-then-text-gt-ANSWER_LIMIT c = record {
  verdict = (
    (λ r.
        let l = met_short c.args.left.now c.args.right.now c.args.text.now
        c.names_len-names.ensures.named c.terms-left_terms.ensures.bounded
        (length c.args.right.now.names) c.terms-right_terms.ensures.bounded
        (c.lines-left_lines.ensures.lined, c.lines-right_lines.ensures.lined) r in
        let m = c.if-text-gt-ANSWER_LIMIT.true in
        omega (arith, l, m)),
    (refl, c.if-text-gt-ANSWER_LIMIT.true),
  );
}

pub returns-in-Ok : goal.returns-in-Ok
returns-in-Ok c = record {
  verdict = if_ok c.judge_told.result _ _
      (λ v found. found_verdict (sum_of_instance c.args.left.now) (sum_of_instance c.args.right.now)
      c.args.text.now (met_of c.in-Ok.met)
      c.names_len-names.ensures.named c.in-Ok.ensures.read c.if-text-gt-ANSWER_LIMIT.false v found)
      c.judge_told.ensures;
}
