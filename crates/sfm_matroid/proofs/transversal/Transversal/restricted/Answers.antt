use Rattle.std.proofs.Common.{◌≡◌, ◌∙◌, length, sym, ap, subst}
use Rattle.sfm_spec.specs.Bounds.{AreElements}
use Rattle.sfm_layers.specs.Kept.{kept}
use Rattle.sfm_layers.proofs.Kept.{kept-elements, length-kept}
use Rattle.sfm_matroid.proofs.transversal.Transversal.restricted.Goals as goal

pub new-requires-clause-elements : goal.new-requires-clause-elements
new-requires-clause-elements c =
    let s = c.args.self.now in
    let keep = c.args.keep.now in
    let r = c.requires in
    let is : c.deref.result.now ≡ kept keep s.places = c.deref.ensures.value
    ∙ (c.in_ok-elements.ensures ∙ ap (λ places. kept keep places) c.as_slice.ensures) in
    subst AreElements (sym is) (kept-elements keep s.places r.some.0 r.each r.some.1 s.elements)

pub new-requires-clause-same_count : goal.new-requires-clause-same_count
new-requires-clause-same_count c =
    let s = c.args.self.now in
    let keep = c.args.keep.now in
    let each = c.requires.each in
    let is : c.deref.result.now ≡ kept keep s.places = c.deref.ensures.value
    ∙ (c.in_ok-elements.ensures ∙ ap (λ places. kept keep places) c.as_slice.ensures) in
    ap length c.in_ok-entries.ensures
    ∙ (length-kept keep s.entries (each ∙ sym s.same_count)
    ∙ (sym (length-kept keep s.places each) ∙ ap length (sym is)))
