use Rattle.std.proofs.Common.{refl, FitsSigned}
use Rattle.std.proofs.lemmas.Int.{to_z-of_z}
use mir.Syntax.{w128}
use Rattle.sfm_cert.specs.Solved.{form_of}
use Rattle.sfm_cert.proofs.AnswerLines.{entry_fits}
use Rattle.sfm_met.proofs.Whole.{bad_told, bad_left, bad_right, bad_end, bad_behind, whole_text}
use Rattle.sfm_met.proofs.read.read_met.Goals as goal

pub read_side-requires : goal.read_side-requires
read_side-requires c = c.in_ok-value.ensures.read.within

pub read_side-requires-2 : goal.read_side-requires-2
read_side-requires-2 c = c.in_ok-left_bases.ensures.read.within

pub expect-requires : goal.expect-requires
expect-requires c = c.in_ok-right_bases.ensures.read.within

pub returns-in_err-value-clause-refused : goal.returns-in_err-value-clause-refused
returns-in_err-value-clause-refused c =
    bad_told (form_of c.args.left.now) (form_of c.args.right.now)
    c.names_len-names.ensures.named.forms c.args.text.now _ refl refl
    c.from_residual.result c.in_err-value.field-0.0 c.from_residual.ensures.1
    c.in_err-value.ensures.stopped

pub returns-in_err-left_bases-clause-refused : goal.returns-in_err-left_bases-clause-refused
returns-in_err-left_bases-clause-refused c =
    bad_left (form_of c.args.left.now) (form_of c.args.right.now)
    c.names_len-names.ensures.named.forms c.args.text.now _ refl refl c.in_ok-value.ensures.read
    c.from_residual-in_err-left_bases.result c.in_err-left_bases.field-0.0
    c.from_residual-in_err-left_bases.ensures.1 c.in_err-left_bases.ensures.stopped

pub returns-in_err-right_bases-clause-refused : goal.returns-in_err-right_bases-clause-refused
returns-in_err-right_bases-clause-refused c =
    bad_right (form_of c.args.left.now) (form_of c.args.right.now)
    c.names_len-names.ensures.named.forms c.args.text.now _ refl refl c.in_ok-value.ensures.read
    c.in_ok-left_bases.ensures.read
    c.from_residual-in_err-right_bases.result c.in_err-right_bases.field-0.0
    c.from_residual-in_err-right_bases.ensures.1 c.in_err-right_bases.ensures.stopped

pub returns-in_err-expect-clause-refused : goal.returns-in_err-expect-clause-refused
returns-in_err-expect-clause-refused c =
    bad_end (form_of c.args.left.now) (form_of c.args.right.now)
    c.names_len-names.ensures.named.forms c.args.text.now _ refl refl c.in_ok-value.ensures.read
    c.in_ok-left_bases.ensures.read c.in_ok-right_bases.ensures.read
    c.from_residual-in_err-expect.result c.in_err-expect.field-0.0
    c.from_residual-in_err-expect.ensures.1 c.in_err-expect.ensures.stuck

pub returns-then-cursor-text-clause-refused : goal.returns-then-cursor-text-clause-refused
returns-then-cursor-text-clause-refused c =
    bad_behind (form_of c.args.left.now) (form_of c.args.right.now)
    c.names_len-names.ensures.named.forms c.args.text.now _ refl refl c.in_ok-value.ensures.read
    c.in_ok-left_bases.ensures.read c.in_ok-right_bases.ensures.read c.in_ok-expect.ensures.taken
    c.in_ok-expect.ensures.within c.if-cursor-text.true

pub returns-clause-read : goal.returns-clause-read
returns-clause-read c =
    let f : FitsSigned w128 c.in_ok-value.value = entry_fits c.in_ok-value.value
    c.in_ok-value.ensures.read.small in
    rw c.from_vec.ensures (simp to_z-of_z
    (whole_text (form_of c.args.left.now) (form_of c.args.right.now)
    c.names_len-names.ensures.named.forms c.args.text.now _ refl refl c.in_ok-value.ensures.read
    c.in_ok-left_bases.ensures.read c.in_ok-right_bases.ensures.read c.in_ok-expect.ensures.taken
    c.in_ok-expect.ensures.within c.if-cursor-text.false))
