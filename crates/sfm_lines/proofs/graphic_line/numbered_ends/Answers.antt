use Rattle.std.proofs.Common.{◌≡◌, List, ℕ, Ok, Err, IfOk, map, sym, ◌∙◌}
use Rattle.std.proofs.lemmas.Simd.{map-map}
use Rattle.sfm_graphic.specs.Ends.{edges_of}
use Rattle.sfm_lines.specs.Lines.{texts_of}
use Rattle.sfm_lines.specs.LabelTerms.{distinct_of, edge_between, numbers_of}
use Rattle.sfm_lines.specs.CutParts.{place_among}
use Rattle.sfm_lines.specs.ReadParts.{label_lists_of, joined}
use Rattle.sfm_lines.proofs.FewLabels.{keys-few}
use Rattle.sfm_lines.proofs.graphic_line.numbered_ends.Goals as goal

pub ends-requires-clause-few : goal.ends-requires-clause-few
ends-requires-clause-few c =
    let lists = label_lists_of c.args.labels.now in
    keys-few c.in_ok-names.names.keys (joined lists) c.in_ok-names.ensures c.requires.few

pub returns : goal.returns
returns c =
    let lists = label_lists_of c.args.labels.now in
    let numbers : List (List ℕ) → List ℕ = λ texts. map (place_among (distinct_of (joined lists)))
    texts in
    elim c.ends.result as (λ r. IfOk r
    (λ v. edges_of v.items ≡ map
    (λ (texts : List (List ℕ)). edge_between
    (map (place_among (texts_of c.in_ok-names.names.keys)) texts)) lists)
    → IfOk r (λ v. edges_of v.items ≡ map edge_between (numbers_of lists))) [
      | Ok v ↦ λ h. (rw c.in_ok-names.ensures at h) ∙ sym (map-map edge_between numbers lists)
      | Err e ↦ λ h. h
    ] c.ends.ensures
