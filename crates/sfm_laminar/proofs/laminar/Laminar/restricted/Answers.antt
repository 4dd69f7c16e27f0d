use Rattle.std.proofs.Common.{◌≡◌, ◌∙◌, length, pos, ◌≤ℤ◌, sym, ap, subst}
use Rattle.std.specs.List.{All}
use Rattle.std.proofs.lemmas.Int.{to_z-of_z}
use mir.Syntax.{w128}
use Rattle.sfm_spec.specs.Sets.{size}
use Rattle.sfm_spec.specs.Bounds.{IsGiven, AreElements}
use Rattle.sfm_layers.specs.Kept.{kept}
use Rattle.sfm_layers.proofs.Kept.{length-kept, kept-elements}
use Rattle.sfm_laminar.specs.Groups.{IsBelow, NoneCross, AreGroups}
use Rattle.sfm_laminar.specs.Cut.{cut_groups}
use Rattle.sfm_laminar.proofs.Cut.{cut-groups}
use Rattle.sfm_laminar.proofs.laminar.Laminar.restricted.Goals as goal

pub uncrossed-requires : goal.uncrossed-requires
uncrossed-requires c =
    let s = c.args.self.now in
    let keep = c.args.keep.now in
    let r = c.requires in
    let is : c.deref.result.now ≡ kept keep s.places = c.deref.ensures.value
    ∙ (c.in_ok-elements.ensures ∙ ap (λ places. kept keep places) c.as_slice.ensures) in
    let count : length c.deref.result.now ≡ size keep = ap length is
    ∙ length-kept keep s.places r.each in
    let cut : c.in_ok-groups.groups ≡ cut_groups keep s.groups = c.in_ok-groups.ensures in
    let ok = cut-groups keep s.groups (subst (λ n. AreGroups n s.groups) (sym r.each) s.grouped) in
    let w = to_z-of_z w128 c.args.w c.ranges.w in
    record {
      none = subst NoneCross (sym cut) ok.none;
      below = subst (λ gs. All (IsBelow (length c.deref.result.now)) gs) (sym cut)
          (subst (λ n. All (IsBelow n) (cut_groups keep s.groups)) (sym count) ok.below);
      elements = subst AreElements (sym is)
          (kept-elements keep s.places r.some.0 r.each r.some.1 s.elements);
      low = subst (λ z. pos 0 ≤ℤ z) (sym w) r.low;
      given = subst IsGiven (sym w) r.given;
    }
