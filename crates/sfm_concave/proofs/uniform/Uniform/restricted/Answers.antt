use Rattle.std.proofs.Common.{◌≡◌, sym, ap, ◌∙◌, subst}
use Rattle.sfm_spec.specs.Bounds.{AreElements}
use Rattle.sfm_layers.specs.Kept.{kept}
use Rattle.sfm_layers.proofs.Kept.{kept-elements}
use Rattle.sfm_concave.proofs.uniform.Uniform.restricted.Goals as goal

pub new-requires-clause-elements : goal.new-requires-clause-elements
new-requires-clause-elements c =
    let s = c.args.self.now in
    let keep = c.args.keep.now in
    let r = c.requires in
    let is : c.deref.result.now ≡ kept keep s.places = c.deref.ensures.value
    ∙ (c.in_ok-elements.ensures ∙ ap (λ places. kept keep places) c.as_slice.ensures) in
    subst AreElements (sym is) (kept-elements keep s.places r.some.0 r.each r.some.1 s.elements)
