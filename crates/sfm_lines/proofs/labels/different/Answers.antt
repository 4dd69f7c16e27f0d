use Rattle.std.proofs.Common.{take, ap, ◌∙◌}
use Rattle.std.proofs.lemmas.List.{take_all}
use Rattle.sfm_lines.specs.Lines.{texts_of}
use Rattle.sfm_lines.specs.LabelTerms.{distinct_of}
use Rattle.sfm_lines.specs.ReadParts.{label_lists_of, joined}
use Rattle.sfm_lines.specs.declared.labels.Labels.{Labels}
use Rattle.sfm_lines.proofs.Numbering.{joined-more}
use Rattle.sfm_lines.proofs.labels.different.Goals as goal

pub loop-element-preserved : goal.loop-element-preserved
loop-element-preserved c =
    let before = joined (label_lists_of (take c.loop-element.element-index c.args.labels.now)) in
    let more = c.in_ok-add_names.ensures before c.loop-element.invariant in
    rw (c.deref.ensures.value, c.element-item.is) at more
    ∙ ap distinct_of (joined-more (λ (t : Labels). texts_of t.texts.items) c.args.labels.now
    c.loop-element.element-index _ c.loop-element-test.true)

pub returns : goal.returns
returns c = rw (take_all c.loop-element.element-index c.args.labels.now c.loop-element-test.false)
    at c.loop-element.invariant
