use Rattle.std.proofs.Common.{◌≡◌, ◌∙◌, length, sym, ap, subst}
use Rattle.std.proofs.lemmas.Result.{IfOk-weaker}
use Rattle.sfm_spec.specs.Bounds.{AreElements}
use Rattle.sfm_layers.specs.Kept.{kept}
use Rattle.sfm_layers.proofs.Kept.{kept-elements, kept-map, length-kept}
use Rattle.sfm_graphic.specs.Ends.{edge_of, edges_of}
use Rattle.sfm_graphic.proofs.Labels.{length-edges}
use Rattle.sfm_graphic.proofs.graphic.Graphic.restricted.Goals as goal

pub new-requires-clause-elements : goal.new-requires-clause-elements
new-requires-clause-elements c =
    let s = c.args.self.now in
    let keep = c.args.keep.now in
    let r = c.requires in
    let is : c.deref.result.now ≡ kept keep s.places = c.deref.ensures.value
    ∙ (c.in_ok-elements.ensures ∙ ap (λ places. kept keep places) c.as_slice.ensures) in
    subst AreElements (sym is) (kept-elements keep s.places r.some.0 r.each r.some.1 s.elements)

pub new-requires-clause-same_count : goal.new-requires-clause-same_count
new-requires-clause-same_count c =
    let s = c.args.self.now in
    let keep = c.args.keep.now in
    let each = c.requires.each in
    let pairs = c.as_slice-2.result.now in
    let some : length c.deref-2.result.now ≡ length (kept keep pairs) = ap length
    (c.deref-2.ensures.value ∙ c.in_ok-ends.ensures) in
    let all : length keep ≡ length pairs = each
    ∙ (sym s.same_count ∙ (ap length (sym c.as_slice-2.ensures) ∙ length-edges pairs)) in
    let is : c.deref.result.now ≡ kept keep s.places = c.deref.ensures.value
    ∙ (c.in_ok-elements.ensures ∙ ap (λ places. kept keep places) c.as_slice.ensures) in
    some ∙ (length-kept keep pairs all
    ∙ (sym (length-kept keep s.places each) ∙ ap length (sym is)))

pub returns-clause-ends : goal.returns-clause-ends
returns-clause-ends c =
    let s = c.args.self.now in
    let keep = c.args.keep.now in
    let pairs = c.as_slice-2.result.now in
    let is : edges_of c.deref-2.result.now ≡ kept keep s.ends = ap edges_of
    (c.deref-2.ensures.value ∙ c.in_ok-ends.ensures)
    ∙ (kept-map edge_of keep pairs ∙ ap (λ edges. kept keep edges) c.as_slice-2.ensures) in
    IfOk-weaker c.new.result _ _ (λ r h. h ∙ is) c.new.ensures.ends
