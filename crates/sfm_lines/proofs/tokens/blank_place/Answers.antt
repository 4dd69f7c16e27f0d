use Rattle.std.proofs.Common.{◌≡◌, false, get_or, take, sym}
use Rattle.std.proofs.lemmas.List.{take_more}
use Rattle.std.proofs.lemmas.List.Elements.{All-push}
use Rattle.sfm_lines.specs.Tokens.{is_blank}
use Rattle.sfm_lines.proofs.Cuts.{place-none, place-here}
use Rattle.sfm_lines.proofs.tokens.blank_place.Goals as goal

pub returns : goal.returns
returns c = place-none is_blank c.args.line.now c.loop-i.i c.loop-i-test.false c.loop-i.invariant

pub returns-then-is_blank_byte : goal.returns-then-is_blank_byte
returns-then-is_blank_byte c = place-here is_blank c.args.line.now c.loop-i.i 0 c.loop-i-test.true
    c.loop-i.invariant (sym c.if-is_blank_byte.ensures)

pub loop-i-preserved : goal.loop-i-preserved
loop-i-preserved c = rw (take_more c.args.line.now c.loop-i.i 0 c.loop-i-test.true)
    (All-push (λ x. is_blank x ≡ false) (take c.loop-i.i c.args.line.now)
    (get_or c.args.line.now c.loop-i.i 0) c.loop-i.invariant (sym c.if-is_blank_byte.ensures))
