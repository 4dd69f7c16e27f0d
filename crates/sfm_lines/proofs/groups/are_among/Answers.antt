use Rattle.std.proofs.Common.{Contains, Bor, List, ℕ, sym, ◌∙◌}
use Rattle.std.proofs.lemmas.Bool.{true≢false}
use Rattle.sfm_lines.specs.Lines.{texts_of}
use Rattle.sfm_lines.proofs.Members.{among-contains, contains-among}
use Rattle.sfm_lines.proofs.Steps.{Any-step, All-step, All-end}
use Rattle.sfm_lines.proofs.groups.are_among.Goals as goal

pub returns-then-not-is_one_of : goal.returns-then-not-is_one_of
returns-then-not-is_one_of c = Any-step (λ name. Contains (texts_of c.args.elements.now) name → ⊥)
    (λ (t : Bor (List ℕ)). t.now) c.args.names.now c.loop-name.name-index _ c.loop-name-test.true
    (λ h. true≢false (sym (contains-among (texts_of c.args.elements.now) _ h)
    ∙ sym c.if-not-is_one_of.ensures))

pub loop-name-preserved : goal.loop-name-preserved
loop-name-preserved c = All-step (Contains (texts_of c.args.elements.now))
    (λ (t : Bor (List ℕ)). t.now) c.args.names.now c.loop-name.name-index _ c.loop-name-test.true
    c.loop-name.invariant
    (among-contains (texts_of c.args.elements.now) _ (sym c.if-not-is_one_of.ensures))

pub returns : goal.returns
returns c = All-end (Contains (texts_of c.args.elements.now)) (λ (t : Bor (List ℕ)). t.now)
    c.args.names.now c.loop-name.name-index c.loop-name-test.false c.loop-name.invariant
