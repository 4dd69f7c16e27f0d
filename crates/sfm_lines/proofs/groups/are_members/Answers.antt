use Rattle.std.proofs.Common.{Contains, Bor, List, ℕ}
use Rattle.std.specs.List.{All, Any}
use Rattle.sfm_lines.specs.Lines.{texts_of}
use Rattle.sfm_lines.proofs.Steps.{Any-step, All-step, All-end}
use Rattle.sfm_lines.proofs.groups.are_members.Goals as goal

pub returns-then-not-are_among : goal.returns-then-not-are_among
returns-then-not-are_among c =
    Any-step (λ names. Any (λ name. Contains (texts_of c.args.elements.now) name → ⊥) names)
    (λ (t : Bor (List (Bor (List ℕ)))). texts_of t.now) c.args.groups.now c.loop-names.names-index _
    c.loop-names-test.true c.if-not-are_among.ensures

pub loop-names-preserved : goal.loop-names-preserved
loop-names-preserved c = All-step (λ names. All (Contains (texts_of c.args.elements.now)) names)
    (λ (t : Bor (List (Bor (List ℕ)))). texts_of t.now) c.args.groups.now c.loop-names.names-index _
    c.loop-names-test.true c.loop-names.invariant c.if-not-are_among.ensures

pub returns : goal.returns
returns c = All-end (λ names. All (Contains (texts_of c.args.elements.now)) names)
    (λ (t : Bor (List (Bor (List ℕ)))). texts_of t.now) c.args.groups.now c.loop-names.names-index
    c.loop-names-test.false c.loop-names.invariant
