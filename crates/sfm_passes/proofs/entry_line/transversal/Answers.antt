use Rattle.std.proofs.Common.{length, map, ap, ◌∙◌}
use Rattle.std.proofs.lemmas.List.{length-map}
use Rattle.std.proofs.lemmas.Result.{IfOk-weaker}
use Rattle.sfm_lines.specs.Lines.{texts_of}
use Rattle.sfm_lines.specs.CutParts.{place_among}
use Rattle.sfm_lines.specs.LabelTerms.{distinct_of}
use Rattle.sfm_lines.specs.ReadParts.{label_lists_of, joined}
use Rattle.sfm_lines.specs.declared.labels.Labels.{Labels}
use Rattle.sfm_passes.proofs.entry_line.transversal.Goals as goal

pub new-requires-clause-same_count : goal.new-requires-clause-same_count
new-requires-clause-same_count c =
    let lists = label_lists_of c.args.labels.now in
    ap length c.in_ok-entries.ensures
    ∙ (length-map lists (λ texts. map (place_among (distinct_of (joined lists))) texts)
    ∙ (length-map c.args.labels.now (λ (t : Labels). texts_of t.texts.items) ∙ c.requires.each))

pub returns-clause-entries : goal.returns-clause-entries
returns-clause-entries c = IfOk-weaker c.new.result _ _ (λ r h. h ∙ c.in_ok-entries.ensures)
    c.new.ensures.entries
