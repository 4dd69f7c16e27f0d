use Rattle.std.proofs.Common.{◌≡◌, length, map, take, drop, ◌++◌, ◌*ℤ◌, refl, ap, sym, ◌∙◌, arith, FitsSigned}
use Rattle.std.proofs.lemmas.Int.{ints, to_z-of_z}
use Rattle.std.proofs.lemmas.List.{length-map}
use mir.Syntax.{w128}
use Rattle.sfm_cells.specs.Splits.{Demands, AreDemands}
use Rattle.sfm_cells.proofs.Outcomes.{other_demands}
use Rattle.sfm_cells.proofs.Written.{written}
use Rattle.sfm_cells.proofs.demand.Demand.copy_times.Goals as goal
use Rattle.sfm_cells.proofs.demand.Demand.copy_times.Goals.{After-copy_times-2}

pub copy_times-requires-clause-amounts : goal.copy_times-requires-clause-amounts
copy_times-requires-clause-amounts c =
    let fm : FitsSigned w128 c.args.m = c.ranges.m in
    rw (c.deref.ensures.value ∙ ap (λ (d : Demands). d.demands) c.from.view_is)
    (simp to_z-of_z c.requires.amounts)

pub copy_times-requires-2-clause-amounts : goal.copy_times-requires-2-clause-amounts
copy_times-requires-2-clause-amounts c =
    let fm : FitsSigned w128 c.args.m = c.ranges.m in
    let capacities = c.deref-2.ensures.value ∙ ap (λ (d : Demands). d.capacities) c.from.view_is in
    rw capacities (simp to_z-of_z
    (λ k a lt. let h = c.requires.bounded k a
    lt in record { low = h.low; high = omega (arith, ints, h.high) }))

-- the demands and the capacities that are written
made : (c : After-copy_times-2) → let inside = c.self.inside in
    (take inside.demands.len (c.copy_times.new.to ++ drop (length c.copy_times.new.to)
    inside.demands.items) ≡ map (λ a. c.args.m *ℤ a) c.args.from.now.demands)
    × (take inside.capacities.len
    (c.copy_times-2.new.to ++ drop (length c.copy_times-2.new.to) inside.capacities.items) ≡ map
    (λ a. c.args.m *ℤ a) c.args.from.now.capacities)
made c =
    let m = c.args.m in
    let fm : FitsSigned w128 m = c.ranges.m in
    let inside = c.self.inside in
    let demands = c.deref.ensures.value ∙ ap (λ (d : Demands). d.demands) c.from.view_is in
    let capacities = c.deref-2.ensures.value ∙ ap (λ (d : Demands). d.capacities) c.from.view_is in
    let first : c.copy_times.new.to ≡ map (λ a. m *ℤ a) c.deref.result.now = simp to_z-of_z at
    c.copy_times.ensures in
    let second : c.copy_times-2.new.to ≡ map (λ a. m *ℤ a) c.deref-2.result.now = simp to_z-of_z at
    c.copy_times-2.ensures in
    let long = c.copy_times.auto.to
    ∙ (ap length c.deref_mut.ensures.value ∙ sym inside.demands.ok.0) in
    let wide = c.copy_times-2.auto.to
    ∙ (ap length c.deref_mut-2.ensures.value ∙ sym inside.capacities.ok.0) in (
      written c.copy_times.new.to (drop (length c.copy_times.new.to) inside.demands.items)
          inside.demands.len long ∙ (first ∙ ap (map (λ a. m *ℤ a)) demands),
      written c.copy_times-2.new.to (drop (length c.copy_times-2.new.to) inside.capacities.items)
          inside.capacities.len wide ∙ (second ∙ ap (map (λ a. m *ℤ a)) capacities),
    )

pub invariant_of-self : goal.invariant_of-self
invariant_of-self c =
    let (demands, capacities) = made (goal.at.invariant_of-self c).After-copy_times-2 in
    let d = c.args.self.now in
    let from = c.args.from.now in
    let m = c.args.m in
    let r = c.requires in
    let sound : AreDemands d = rw c.self.view_is at c.self.invariant in
    let lists = ap (λ (d : Demands). d.lists) c.self.view_is in
    rw (demands, capacities, lists)
    (other_demands d sound (map (λ a. m *ℤ a) from.demands) (map (λ a. m *ℤ a) from.capacities)
    (length-map from.demands (λ a. m *ℤ a) ∙ sym r.places)
    (length-map from.capacities (λ a. m *ℤ a) ∙ sym r.slots) r.amounts r.bounded)

pub returns : goal.returns
returns c =
    let (demands, capacities) = made (goal.at.returns c).After-copy_times-2 in
    rw (demands, capacities, ap (λ (d : Demands). d.lists) c.self.view_is) refl
