use Rattle.std.proofs.Common.{length, sym, subst, ◌∙◌}
use Rattle.sfm_side.specs.Frame.{IsReadTo, left_of, text_in}
use Rattle.sfm_side.specs.Pins.{pins_form}
use Rattle.sfm_side.specs.PinLines.{pins_of, AreOver}
use Rattle.sfm_side.proofs.Framing.{opened, open-refused, left-refused, line-refused, line-read, end-read}
use Rattle.sfm_side.proofs.PinReasons.{pins-framed, nothing-over}
use Rattle.sfm_side.proofs.pins.take_lines.Goals as goal

pub loop-line-init : goal.loop-line-init
loop-line-init c =
    let names = c.args.instance.now.names in
    record {
      read = subst (IsReadTo (pins_form names) c.args.text.now (left_of c.in_ok-frame.frame))
          (sym c.requires.nothing) (opened (pins_form names) c.args.text.now c.in_ok-frame.frame
          c.in_ok-frame.ensures.opened);
      whole = c.in_ok-frame.ensures.opened.whole;
      over = subst (AreOver (length names)) (sym c.requires.nothing) (nothing-over names);
    }

pub returns-in_err-frame-clause-refused : goal.returns-in_err-frame-clause-refused
returns-in_err-frame-clause-refused c =
    open-refused (pins_form c.args.instance.now.names) c.args.text.now c.from_residual.result
    c.in_err-frame.field-0.0 c.from_residual.ensures.1 c.in_err-frame.ensures.refused

pub returns-in_err-line-clause-refused : goal.returns-in_err-line-clause-refused
returns-in_err-line-clause-refused c =
    let names = c.args.instance.now.names in
    let frame = c.loop-line.frame in
    left-refused (pins_form names) c.args.text.now (pins-framed names) (left_of frame)
    (pins_of c.loop-line.pins) c.loop-line.invariant.read
    c.from_residual-in_err-line.result c.in_err-line.field-0.0 c.from_residual-in_err-line.ensures.1
    (text_in frame) c.loop-line.invariant.whole c.in_err-line.ensures.next

pub returns-in-Some-take_line-clause-refused : goal.returns-in-Some-take_line-clause-refused
returns-in-Some-take_line-clause-refused c =
    let names = c.args.instance.now.names in
    let (inner, next) = rw c.in-Some.is at c.in_ok-line.ensures.next in
    line-refused (pins_form names) c.args.text.now (pins-framed names) (left_of c.loop-line.frame)
    (pins_of c.loop-line.pins) c.loop-line.invariant.read
    c.in-Some.line.number c.in-Some.line.bytes.now _ c.in-Some-take_line.reason next inner
    c.in-Some-take_line.ensures.told

pub loop-line-preserved : goal.loop-line-preserved
loop-line-preserved c =
    let names = c.args.instance.now.names in
    let (inner, next) = rw c.in-Some.is at c.in_ok-line.ensures.next in
    let said = c.in_default-take_line.ensures.told in
    record {
      read = line-read (pins_form names) c.args.text.now (pins-framed names)
          (left_of c.loop-line.frame) (pins_of c.loop-line.pins) c.loop-line.invariant.read
          c.in-Some.line.number c.in-Some.line.bytes.now (left_of c.next_line.new.self)
          (pins_of c.take_line.new.pins) next inner said.good said.says;
      whole = c.next_line.ensures.text ∙ c.loop-line.invariant.whole;
      over = c.take_line.ensures.over;
    }

pub returns-clause-read : goal.returns-clause-read
returns-clause-read c =
    let names = c.args.instance.now.names in
    end-read (pins_form names) c.args.text.now (pins-framed names) (left_of c.loop-line.frame)
    (pins_of c.loop-line.pins) c.loop-line.invariant.read
    (rw c.in_default.is at c.in_ok-line.ensures.next)
