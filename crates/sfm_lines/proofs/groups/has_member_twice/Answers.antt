use Rattle.std.proofs.Common.{Bor, List, ℕ}
use Rattle.sfm_lines.specs.Lines.{texts_of}
use Rattle.sfm_lines.specs.TermLines.{StandsTwice}
use Rattle.sfm_lines.proofs.Steps.{Any-step, All-step, All-end}
use Rattle.sfm_lines.proofs.groups.has_member_twice.Goals as goal

pub returns-then-has_repeat : goal.returns-then-has_repeat
returns-then-has_repeat c = Any-step (λ names. StandsTwice names)
    (λ (t : Bor (List (Bor (List ℕ)))). texts_of t.now) c.args.groups.now c.loop-names.names-index _
    c.loop-names-test.true c.if-has_repeat.ensures

pub loop-names-preserved : goal.loop-names-preserved
loop-names-preserved c = All-step (λ names. StandsTwice names → ⊥)
    (λ (t : Bor (List (Bor (List ℕ)))). texts_of t.now) c.args.groups.now c.loop-names.names-index _
    c.loop-names-test.true c.loop-names.invariant c.if-has_repeat.ensures

pub returns : goal.returns
returns c = All-end (λ names. StandsTwice names → ⊥)
    (λ (t : Bor (List (Bor (List ℕ)))). texts_of t.now) c.args.groups.now c.loop-names.names-index
    c.loop-names-test.false c.loop-names.invariant
