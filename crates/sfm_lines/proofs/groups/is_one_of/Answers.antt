use Rattle.std.proofs.Common.{◌≡◌, false, Bor, List, ℕ, sym}
use Rattle.std.specs.Prelude.{bytes_eq}
use Rattle.sfm_lines.proofs.Members.{among-here, among-none}
use Rattle.sfm_lines.proofs.Steps.{All-step, All-end}
use Rattle.sfm_lines.proofs.groups.is_one_of.Goals as goal

pub returns-then-eq : goal.returns-then-eq
returns-then-eq c = sym (among-here c.args.texts.now c.args.text.now c.loop-other.other-index _
    c.loop-other-test.true (sym c.if-eq.ensures))

pub loop-other-preserved : goal.loop-other-preserved
loop-other-preserved c = All-step (λ other. bytes_eq other c.args.text.now ≡ false)
    (λ (t : Bor (List ℕ)). t.now) c.args.texts.now c.loop-other.other-index _ c.loop-other-test.true
    c.loop-other.invariant (sym c.if-eq.ensures)

pub returns : goal.returns
returns c = sym (among-none c.args.texts.now c.args.text.now
    (All-end (λ other. bytes_eq other c.args.text.now ≡ false) (λ (t : Bor (List ℕ)). t.now)
    c.args.texts.now c.loop-other.other-index c.loop-other-test.false c.loop-other.invariant))
