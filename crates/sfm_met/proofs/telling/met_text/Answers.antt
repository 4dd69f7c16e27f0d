use Rattle.std.proofs.Common.{Result, Ok, Err}
use Rattle.std.specs.Prelude.{IfOk}
use Rattle.sfm_meet.specs.Told.{met_of}
use Rattle.sfm_met.proofs.Told.{formed_of}
use Rattle.sfm_met.proofs.telling.met_text.Goals as goal

-- what follows from each good answer of a call
if_ok : {X E : Type 0} (r : Result X E) (P Q : X → Type 0) → ((x : X) → P x → Q x) → IfOk r P
    → IfOk r Q
if_ok (Ok x) P Q f h = f x h
if_ok (Err e) P Q f h = tt

pub write_met-requires : goal.write_met-requires
write_met-requires c =
    let e = c.in_ok-met.ensures in
    formed_of c.args.left.now c.args.right.now (met_of c.in_ok-met.met) e.is_true e.value e.common
    e.left e.right

pub returns : goal.returns
returns c =
    let e = c.in_ok-met.ensures in
    let formed = formed_of c.args.left.now c.args.right.now (met_of c.in_ok-met.met) e.is_true
    e.value e.common e.left e.right in
    if_ok c.write_met.result _ _
    (λ text is. (
      record {
        answer = met_of c.in_ok-met.met;
        is_text = record { formed = formed; written = is };
        proved = e.is_true.proved;
        split = e.is_true.split;
      },
      e.greatest,
    ))
    c.write_met.ensures
