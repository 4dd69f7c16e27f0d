use Rattle.std.proofs.Common.{◌∙◌, ap, get_or, sym, length, false, arith}
use Rattle.sfm_laminar.specs.Crossing.{no_group, group_at}
use Rattle.sfm_laminar.specs.Masks.{length-mask}
use Rattle.sfm_laminar.specs.Ranks.{contains-mask, mask-contains}
use Rattle.sfm_laminar.proofs.laminar.Laminar.has.Goals as goal

pub contains-requires : goal.contains-requires
contains-requires c =
    let s = c.args.self.now in
    let l = ap length c.mask.ensures
    ∙ length-mask (length s.places) (group_at s.groups c.args.i).members in
    omega (arith, l, c.requires.place)

pub returns-clause-masked : goal.returns-clause-masked
returns-clause-masked c = c.contains.ensures ∙ ap (λ t. get_or t c.args.v false) c.mask.ensures

pub returns-clause-member : goal.returns-clause-member
returns-clause-member c =
    let s = c.args.self.now in
    let g = group_at s.groups c.args.i in
    let is = c.contains.ensures ∙ ap (λ t. get_or t c.args.v false) c.mask.ensures in (
      (λ t. mask-contains (length s.places) g c.args.v (sym is ∙ t)),
      (λ h. is ∙ contains-mask (length s.places) g c.args.v
          (s.grouped.below c.args.i no_group c.requires.group) h),
    )
