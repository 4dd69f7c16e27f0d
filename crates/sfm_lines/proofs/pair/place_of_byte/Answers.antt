use Rattle.std.proofs.Common.{◌≡◌, ◌==◌, false, get_or, take}
use Rattle.std.proofs.lemmas.Bool.{eq-eqb, ne_eqb}
use Rattle.std.proofs.lemmas.List.{take_more}
use Rattle.std.proofs.lemmas.List.Elements.{All-push}
use Rattle.sfm_lines.proofs.Cuts.{place-none, place-here}
use Rattle.sfm_lines.proofs.pair.place_of_byte.Goals as goal

pub returns-clause-place : goal.returns-clause-place
returns-clause-place c = place-none (λ x. x == c.args.b) c.args.text.now c.loop-i.i
    c.loop-i-test.false c.loop-i.invariant

pub returns-then-text-i-clause-place : goal.returns-then-text-i-clause-place
returns-then-text-i-clause-place c = place-here (λ x. x == c.args.b) c.args.text.now c.loop-i.i 0
    c.loop-i-test.true c.loop-i.invariant (eq-eqb _ _ c.if-text-i.true)

pub loop-i-preserved : goal.loop-i-preserved
loop-i-preserved c = rw (take_more c.args.text.now c.loop-i.i 0 c.loop-i-test.true)
    (All-push (λ x. (x == c.args.b) ≡ false) (take c.loop-i.i c.args.text.now)
    (get_or c.args.text.now c.loop-i.i 0) c.loop-i.invariant (ne_eqb _ _ c.if-text-i.false))
