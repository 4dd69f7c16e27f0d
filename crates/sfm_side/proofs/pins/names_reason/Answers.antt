use Rattle.std.proofs.Common.{◌≢◌, [], length, ap, arith}
use Rattle.sfm_lines.specs.Lines.{tokens_of}
use Rattle.sfm_lines.specs.Parts.{IsSeparator}
use Rattle.sfm_lines.proofs.Colons.{none-any}
use Rattle.sfm_side.proofs.PinReasons.{pin-empty, pin-marked, pin-name}
use Rattle.sfm_side.proofs.pins.names_reason.Goals as goal

pub returns-in_default : goal.returns-in_default
returns-in_default c = λ p pin. pin-empty c.args.instance.now.names p pin
    (tokens_of c.args.line.now) c.in_default.ensures.cut

pub returns-then-has_separator_in : goal.returns-then-has_separator_in
returns-then-has_separator_in c =
    λ p pin. pin-marked c.args.instance.now.names p pin (tokens_of c.args.line.now)
    c.if-has_separator_in.ensures

pub returns-then-not-all_pass : goal.returns-then-not-all_pass
returns-then-not-all_pass c = λ p pin.
    let tokens = tokens_of c.args.line.now in
    let some : tokens ≢ [] = λ none.
    omega (arith, ap length none, ap length c.in-Some.ensures.cut) in
    pin-name c.args.instance.now.names p pin tokens some
    (none-any IsSeparator tokens c.if-has_separator_in.ensures) c.if-not-all_pass.ensures
