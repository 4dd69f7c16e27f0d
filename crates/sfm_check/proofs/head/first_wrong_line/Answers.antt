use Rattle.std.proofs.Common.{◌≡◌, ◌≢◌, ◌<◌, ◌^◌, ap, arith, ℤ, nat_abs, FitsSigned}
use Rattle.std.specs.Fmt.{signed_decimal}
use Rattle.std.proofs.lemmas.Bool.{both_ways}
use Rattle.std.proofs.lemmas.Int.{ints, to_z-of_z}
use mir.Syntax.{w128}
use mir.Val.{to_z, of_z}
use Rattle.sfm_spec.specs.Bounds.{IsEntry}
use Rattle.std.proofs.lemmas.List.{length-map}
use Rattle.sfm_extreme.specs.Blocks.{block_of}
use Rattle.sfm_cert.specs.Solved.{answer_of, form_of, form_with}
use Rattle.sfm_check.specs.Due.{due_answer}
use Rattle.sfm_check.proofs.Forming.{few_lines}
use Rattle.sfm_check.proofs.WrongLines.{one_number, wrong_value, wrong_least, wrong_greatest, wrong_block}
use Rattle.sfm_check.proofs.head.first_wrong_line.Goals as goal

same_value : (a b : ℤ) → IsEntry a → IsEntry b → of_z w128 a ≡ of_z w128 b → a ≡ b
same_value a b ea eb e =
    let fa : FitsSigned w128 a = omega (arith, ints, ea) in
    let fb : FitsSigned w128 b = omega (arith, ints, eb) in
    let r = ap (to_z w128) e in
    simp to_z-of_z at r

other_text : (a b : ℤ) → IsEntry a → IsEntry b → (of_z w128 a ≡ of_z w128 b → ⊥)
    → signed_decimal a ≢ signed_decimal b
other_text a b ea eb ne e =
    let la : nat_abs a < 10 ^ 64 = omega (arith, ints, ea) in
    let lb : nat_abs b < 10 ^ 64 = omega (arith, ints, eb) in
    ne (ap (of_z w128) (one_number a b la lb e))

pub returns-then-solved-found : goal.returns-then-solved-found
returns-then-solved-found c = λ header marks.
    wrong_value (form_with header c.args.instance.now) (answer_of c.args.solved.now)
    (due_answer c.args.found.now c.args.due.now marks)
    (other_text c.args.solved.now.value c.args.found.now.value c.requires.formed.value
    c.requires.value c.if-solved-found.true)

pub returns-then-not-are_same : goal.returns-then-not-are_same
returns-then-not-are_same c = λ header marks.
    wrong_least (form_with header c.args.instance.now) (answer_of c.args.solved.now)
    (due_answer c.args.found.now c.args.due.now marks) c.requires.named c.requires.formed.least
    c.requires.least
    (same_value c.args.solved.now.value c.args.found.now.value c.requires.formed.value
    c.requires.value c.if-solved-found.false)
    (λ e. both_ways c.are_same.result c.if-not-are_same.true (c.are_same.ensures.1 e))

pub returns-then-not-are_same-2 : goal.returns-then-not-are_same-2
returns-then-not-are_same-2 c = λ header marks.
    wrong_greatest (form_with header c.args.instance.now) (answer_of c.args.solved.now)
    (due_answer c.args.found.now c.args.due.now marks) c.requires.named
    c.requires.formed.greatest c.requires.greatest
    (same_value c.args.solved.now.value c.args.found.now.value c.requires.formed.value
    c.requires.value c.if-solved-found.false)
    (c.are_same.ensures.0 c.if-not-are_same.false)
    (λ e. both_ways c.are_same-2.result c.if-not-are_same-2.true (c.are_same-2.ensures.1 e))

pub returns-in_err-i : goal.returns-in_err-i
returns-in_err-i c = rw c.from_residual.ensures (λ header marks. record {
  value = same_value c.args.solved.now.value c.args.found.now.value c.requires.formed.value
      c.requires.value c.if-solved-found.false;
  least = c.are_same.ensures.0 c.if-not-are_same.false;
  greatest = c.are_same-2.ensures.0 c.if-not-are_same-2.false;
  blocks = rw c.deref.ensures.value at c.in_err-i.ensures;
})

pub returns : goal.returns
returns c = λ header marks.
    let lines = few_lines (form_of c.args.instance.now) (answer_of c.args.solved.now) in
    let most = c.requires.few in
    let unlike = rw c.deref.ensures.value at c.in_ok-i.ensures in
    wrong_block (form_with header c.args.instance.now) (answer_of c.args.solved.now)
    (due_answer c.args.found.now c.args.due.now marks) c.requires.named c.requires.formed.blocks
    (λ i l. c.requires.blocks i (omega (arith, l, length-map c.args.due.now block_of)))
    (omega (arith, lines, most))
    (same_value c.args.solved.now.value c.args.found.now.value c.requires.formed.value
    c.requires.value c.if-solved-found.false)
    (c.are_same.ensures.0 c.if-not-are_same.false)
    (c.are_same-2.ensures.0 c.if-not-are_same-2.false)
    c.in_ok-i.i
    unlike
