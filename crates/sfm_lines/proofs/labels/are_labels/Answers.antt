use Rattle.std.specs.List.{All, Any}
use Rattle.sfm_spec.specs.Names.{IsName}
use Rattle.sfm_lines.specs.Lines.{texts_of}
use Rattle.sfm_lines.specs.declared.labels.Labels.{Labels}
use Rattle.sfm_lines.proofs.Steps.{Any-step, All-step, All-end}
use Rattle.sfm_lines.proofs.labels.are_labels.Goals as goal

pub returns-then-not-are_names : goal.returns-then-not-are_names
returns-then-not-are_names c = Any-step (λ texts. Any (λ text. IsName text → ⊥) texts)
    (λ (t : Labels). texts_of t.texts.items) c.args.labels.now c.loop-element.element-index _
    c.loop-element-test.true (rw (c.deref.ensures.value, c.element-item.is) at
    c.if-not-are_names.ensures)

pub loop-element-preserved : goal.loop-element-preserved
loop-element-preserved c = All-step (λ texts. All IsName texts)
    (λ (t : Labels). texts_of t.texts.items) c.args.labels.now c.loop-element.element-index _
    c.loop-element-test.true c.loop-element.invariant
    (rw (c.deref.ensures.value, c.element-item.is) at c.if-not-are_names.ensures)

pub returns : goal.returns
returns c = All-end (λ texts. All IsName texts) (λ (t : Labels). texts_of t.texts.items)
    c.args.labels.now c.loop-element.element-index c.loop-element-test.false
    c.loop-element.invariant
