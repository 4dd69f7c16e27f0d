use Rattle.std.proofs.Common.{◌∙◌, length, ap, sym, subst}
use Rattle.std.proofs.lemmas.List.{length-replicate}
use Rattle.sfm_assign.specs.Splits.{Demands}
use Rattle.sfm_matroid.specs.Notes.{IsFrame}
use Rattle.sfm_matroid.proofs.frame.Frame.of.Goals as goal

pub untaken-requires : goal.untaken-requires
untaken-requires c = record {
  few = c.requires;
  few_slots = c.above.ensures.high;
  below = c.above.ensures.below;
}

pub new-requires : goal.new-requires
new-requires c =
    let is = c.in_ok-none.ensures in
    let slots = ap (λ (d : Demands). length d.capacities) is ∙ length-replicate c.above.result _ in
    let lists = ap (λ (d : Demands). d.lists) is in
    subst (λ entries. IsFrame entries c.in_ok-none.none.demand) (sym lists)
    (record { below = rw slots c.above.ensures.below; none = rw slots is })

pub returns : goal.returns
returns c = rw (ap (λ (d : Demands). d.lists) c.in_ok-none.ensures) at c.new.ensures
