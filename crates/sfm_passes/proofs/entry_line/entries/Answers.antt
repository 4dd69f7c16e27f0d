-- Each entry is that of its element, by the places of its slots among the different ones.
use Rattle.std.proofs.Common.{List, ℕ, map}
use Rattle.sfm_lines.specs.Lines.{texts_of}
use Rattle.sfm_lines.specs.CutParts.{place_among}
use Rattle.sfm_lines.specs.declared.labels.Labels.{Labels}
use Rattle.sfm_lines.proofs.Steps.{maps-step, maps-end}
use Rattle.sfm_passes.proofs.entry_line.entries.Goals as goal

pub loop-element-preserved : goal.loop-element-preserved
loop-element-preserved c = maps-step (λ (t : Labels). texts_of t.texts.items)
    (λ (texts : List (List ℕ)). map (place_among (texts_of c.args.names.now.keys)) texts)
    c.args.labels.now c.loop-element.element-index _ c.loop-element.entries c.push.new.self _
    c.loop-element-test.true c.loop-element.invariant c.in_ok-push.ensures
    (rw (c.deref.ensures.value, c.element-item.is) at c.in_ok-slots.ensures.numbers)

pub returns : goal.returns
returns c = maps-end (λ (t : Labels). texts_of t.texts.items)
    (λ (texts : List (List ℕ)). map (place_among (texts_of c.args.names.now.keys)) texts)
    c.args.labels.now c.loop-element.element-index c.loop-element.entries c.loop-element-test.false
    c.loop-element.invariant
