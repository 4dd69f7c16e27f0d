use Rattle.sfm_lines.specs.Lines.{tokens_of}
use Rattle.sfm_side.specs.PinLines.{pins_of}
use Rattle.sfm_side.proofs.PinReasons.{pin-other, good-again, good-puts}
use Rattle.sfm_side.proofs.pins.take_line.Goals as goal

pub returns-in_default-clause-told : goal.returns-in_default-clause-told
returns-in_default-clause-told c = pin-other c.args.instance.now.names (pins_of c.args.pins.now)
    (tokens_of c.args.line.now) c.in_default.ensures

pub returns-in-Some-names_reason-clause-told : goal.returns-in-Some-names_reason-clause-told
returns-in-Some-names_reason-clause-told c =
    rw c.in-Some.ensures (c.in-Some-names_reason.ensures (pins_of c.args.pins.now) c.in-Some.pin)

pub returns-then-not-put_pins-clause-told : goal.returns-then-not-put_pins-clause-told
returns-then-not-put_pins-clause-told c =
    rw c.in-Some.ensures (good-again c.args.instance.now.names c.names_len-count.ensures.named
    (pins_of c.args.pins.now) c.requires.over c.in-Some.pin (tokens_of c.in-Some.rest.now)
    c.in_default-names_reason.ensures c.if-not-put_pins.ensures.put)

pub returns-clause-told : goal.returns-clause-told
returns-clause-told c =
    rw c.in-Some.ensures (good-puts c.args.instance.now.names c.names_len-count.ensures.named
    (pins_of c.args.pins.now) c.requires.over c.in-Some.pin (tokens_of c.in-Some.rest.now)
    c.in_default-names_reason.ensures (pins_of c.put_pins.new.pins)
    c.if-not-put_pins.ensures.put)
