use Rattle.std.proofs.Common.{◌≡◌, map, ◌*ℤ◌, refl, ap, ◌∙◌, arith, FitsSigned}
use Rattle.std.proofs.lemmas.Int.{ints, to_z-of_z}
use Rattle.std.proofs.lemmas.List.{length-map}
use mir.Syntax.{w128}
use Rattle.sfm_cells.specs.Splits.{Demands, AreDemands}
use Rattle.sfm_cells.proofs.Outcomes.{other_demands}
use Rattle.sfm_cells.proofs.demand.Demand.times.Goals as goal
use Rattle.sfm_cells.proofs.demand.Demand.times.Goals.{In_ok-list_times-2}

pub list_times-requires : goal.list_times-requires
list_times-requires c =
    let fm : FitsSigned w128 c.args.m = c.ranges.m in
    rw (c.deref.ensures.value ∙ ap (λ (d : Demands). d.demands) c.self.view_is)
    (simp to_z-of_z c.requires.amounts)

pub list_times-requires-2 : goal.list_times-requires-2
list_times-requires-2 c =
    let fm : FitsSigned w128 c.args.m = c.ranges.m in
    let capacities = c.deref-2.ensures.value ∙ ap (λ (d : Demands). d.capacities) c.self.view_is in
    rw capacities (simp to_z-of_z
    (λ k a lt. let h = c.requires.bounded k a
    lt in record { low = h.low; high = omega (arith, ints, h.high) }))

-- the demands and the capacities that were made
made : (c : In_ok-list_times-2)
    → (c.in_ok-list_times.field-0.items ≡ map (λ a. c.args.m *ℤ a) c.args.self.now.demands)
    × (c.in_ok-list_times-2.field-0.items ≡ map (λ a. c.args.m *ℤ a) c.args.self.now.capacities)
made c =
    let fm : FitsSigned w128 c.args.m = c.ranges.m in
    let m = c.args.m in
    let demands = c.deref.ensures.value ∙ ap (λ (d : Demands). d.demands) c.self.view_is in
    let capacities = c.deref-2.ensures.value ∙ ap (λ (d : Demands). d.capacities) c.self.view_is in
    let first : c.in_ok-list_times.field-0.items ≡ map (λ a. m *ℤ a)
    c.deref.result.now = simp to_z-of_z at c.in_ok-list_times.ensures in
    let second : c.in_ok-list_times-2.field-0.items ≡ map (λ a. m *ℤ a)
    c.deref-2.result.now = simp to_z-of_z at c.in_ok-list_times-2.ensures in
    (first ∙ ap (map (λ a. m *ℤ a)) demands, second ∙ ap (map (λ a. m *ℤ a)) capacities)

pub invariant_of-result : goal.invariant_of-result
invariant_of-result c =
    let (demands, capacities) = made c in
    let d = c.args.self.now in
    let m = c.args.m in
    let r = c.requires in
    let sound : AreDemands d = rw c.self.view_is at c.self.invariant in
    let lists = c.in_ok-copy.ensures ∙ ap (λ (d : Demands). d.lists) c.self.view_is in
    rw (demands, capacities, lists)
    (other_demands d sound (map (λ a. m *ℤ a) d.demands) (map (λ a. m *ℤ a) d.capacities)
    (length-map d.demands (λ a. m *ℤ a)) (length-map d.capacities (λ a. m *ℤ a)) r.amounts
    r.bounded)

pub returns : goal.returns
returns c =
    let (demands, capacities) = made c in
    rw (demands, capacities, c.in_ok-copy.ensures ∙ ap (λ (d : Demands). d.lists) c.self.view_is)
    refl
