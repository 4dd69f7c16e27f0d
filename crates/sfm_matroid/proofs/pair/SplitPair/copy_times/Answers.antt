use Rattle.std.proofs.Common.{None, length, ◌*ℤ◌, refl, sym, ap, ◌∙◌, FitsSigned}
use Rattle.std.proofs.lemmas.Int.{to_z-of_z}
use Rattle.std.proofs.lemmas.List.{length-map}
use mir.Syntax.{w128}
use Rattle.sfm_assign.specs.Splits.{Demands}
use Rattle.sfm_matroid.proofs.Beside.{spare_beside}
use Rattle.sfm_matroid.proofs.pair.SplitPair.copy_times.Goals as goal

pub copy_times-requires-clause-amounts : goal.copy_times-requires-clause-amounts
copy_times-requires-clause-amounts c =
    let fm : FitsSigned w128 c.args.m = c.ranges.m in simp to_z-of_z c.requires.multiple.amounts

pub copy_times-requires-clause-bounded : goal.copy_times-requires-clause-bounded
copy_times-requires-clause-bounded c =
    let fm : FitsSigned w128 c.args.m = c.ranges.m in simp to_z-of_z c.requires.multiple.bounded

pub returns-clause-kept : goal.returns-clause-kept
returns-clause-kept c = let fm : FitsSigned w128 c.args.m = c.ranges.m in simp to_z-of_z at
    c.copy_times.ensures

pub returns-clause-spare : goal.returns-clause-spare
returns-clause-spare c =
    let m = c.args.m in
    let fm : FitsSigned w128 m = c.ranges.m in
    let s = c.args.self.now in
    let o = c.args.from.now.kept.demand in
    let r = c.requires in
    let is = simp to_z-of_z at c.copy_times.ensures in
    let places = length-map o.demands (λ a. m *ℤ a)
    ∙ (sym c.demands-other.ensures.sound.same
    ∙ (sym (ap length r.lists) ∙ c.demands-sound.ensures.sound.same)) in
    let slots = length-map o.capacities (λ a. m *ℤ a) ∙ sym r.slots in
    spare_beside s (record { kept = c.copy_times.new.self; spare = s.spare; near = None }) refl
    (record {
      lists = ap (λ (d : Demands). d.lists) is ∙ sym r.lists;
      places = ap (λ (d : Demands). length d.demands) is ∙ places;
      slots = ap (λ (d : Demands). length d.capacities) is ∙ slots;
    })
    r.spare
