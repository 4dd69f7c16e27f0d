use Rattle.std.proofs.Common.{◌≡◌, ◌++◌, take, drop, length, map, ◌*ℤ◌, sym, ap, ◌∙◌, FitsSigned}
use Rattle.std.proofs.lemmas.Int.{to_z-of_z}
use Rattle.std.proofs.lemmas.Bool.{both_ways}
use Rattle.std.proofs.lemmas.List.{length-map}
use mir.Syntax.{w128}
use Rattle.sfm_cells.specs.Cells.{joined, owners}
use Rattle.sfm_cells.specs.Splits.{Demands}
use Rattle.sfm_cells.proofs.Scaling.{met_times, left_times, amounts_times, rooms_times}
use Rattle.sfm_cells.proofs.Written.{written}
use Rattle.sfm_assign.proofs.Spreads.{answers_anew}
use Rattle.sfm_assign.proofs.kept.Kept.copy_times.Goals.{Start, After-copy_times, After-copy_times-2, After-copy_times-3}
use Rattle.sfm_assign.proofs.kept.Kept.copy_times.Goals as goal

-- the two splits have the same cells
cells_same : (c : Start)
    → let s = c.args.self.now in let o = c.args.from.now in (s.shares.cells.whos.items
    ≡ o.shares.cells.whos.items) × (s.shares.cells.slots.items ≡ o.shares.cells.slots.items)
cells_same c =
    let s = c.args.self.now in
    let o = c.args.from.now in
    let lists = c.requires.lists in (
      s.met.in_order ∙ (ap (owners 0) lists ∙ sym o.met.in_order),
      s.met.in_lists ∙ (ap joined lists ∙ sym o.met.in_lists),
    )

-- as many amounts, and as many slots
amounts_long : (c : Start) → length c.args.self.now.shares.y.items ≡ length
    c.args.from.now.shares.y.items
amounts_long c = let s = c.args.self.now in let o = c.args.from.now in s.met.part.cells
    ∙ (ap length (cells_same c).0 ∙ sym o.met.part.cells)

rooms_long : (c : Start) → length c.args.self.now.rooms.items ≡ length c.args.from.now.rooms.items
rooms_long c = let s = c.args.self.now in let o = c.args.from.now in s.left.places
    ∙ (c.requires.slots ∙ sym o.left.places)

pub copy_times-requires : goal.copy_times-requires
copy_times-requires c =
    let fm : FitsSigned w128 c.args.m = c.ranges.m in
    let o = c.args.from.now in
    let r = c.requires in
    let fit = amounts_times c.args.m r.low o.demand _ _ o.shares.y.items o.met
    c.demands-other.ensures.sound r.amounts in
    rw (c.deref.ensures.value, c.deref_mut.ensures.value)
    (record {
      places = amounts_long (goal.at.copy_times-requires c).Start;
      amounts = simp to_z-of_z fit;
    })

pub copy_times-requires-2 : goal.copy_times-requires-2
copy_times-requires-2 c =
    let fm : FitsSigned w128 c.args.m = c.ranges.m in
    let o = c.args.from.now in
    let r = c.requires in
    let fit = rooms_times c.args.m r.low o.demand _ _ o.shares.y.items o.met o.rooms.items o.left
    r.bounded in
    rw (c.deref-2.ensures.value, c.deref_mut-2.ensures.value)
    (record {
      places = rooms_long (goal.at.copy_times-requires-2 c).Start;
      amounts = simp to_z-of_z fit;
    })

pub copy_times-requires-3 : goal.copy_times-requires-3
copy_times-requires-3 c =
    let fm : FitsSigned w128 c.args.m = c.ranges.m in
    let r = c.requires in
    record {
      places = sym c.demands-sound.ensures.sound.same
          ∙ (ap length r.lists ∙ c.demands-other.ensures.sound.same);
      slots = r.slots;
      amounts = simp to_z-of_z r.amounts;
      bounded = simp to_z-of_z r.bounded;
    }

-- what is written: the amounts, what slots have left, and the demands
amounts_are : (c : After-copy_times)
    → let y = c.args.self.now.shares.y in take y.len
    (c.copy_times.new.to ++ drop (length c.copy_times.new.to) y.items) ≡ map (λ a. c.args.m *ℤ a)
    c.args.from.now.shares.y.items
amounts_are c =
    let m = c.args.m in
    let fm : FitsSigned w128 m = c.ranges.m in
    let y = c.args.self.now.shares.y in
    let long = c.copy_times.auto.to ∙ (ap length c.deref_mut.ensures.value ∙ sym y.ok.0) in
    let is : c.copy_times.new.to ≡ map (λ a. m *ℤ a) c.deref.result.now = simp to_z-of_z at
    c.copy_times.ensures in
    written c.copy_times.new.to (drop (length c.copy_times.new.to) y.items) y.len long
    ∙ (is ∙ ap (map (λ a. m *ℤ a)) c.deref.ensures.value)

rooms_are : (c : After-copy_times-2)
    → let rooms = c.args.self.now.rooms in take rooms.len
    (c.copy_times-2.new.to ++ drop (length c.copy_times-2.new.to) rooms.items) ≡ map
    (λ a. c.args.m *ℤ a) c.args.from.now.rooms.items
rooms_are c =
    let m = c.args.m in
    let fm : FitsSigned w128 m = c.ranges.m in
    let rooms = c.args.self.now.rooms in
    let long = c.copy_times-2.auto.to ∙ (ap length c.deref_mut-2.ensures.value ∙ sym rooms.ok.0) in
    let is : c.copy_times-2.new.to ≡ map (λ a. m *ℤ a) c.deref-2.result.now = simp to_z-of_z at
    c.copy_times-2.ensures in
    written c.copy_times-2.new.to (drop (length c.copy_times-2.new.to) rooms.items) rooms.len long
    ∙ (is ∙ ap (map (λ a. m *ℤ a)) c.deref-2.ensures.value)

demand_is : (c : After-copy_times-3) → c.copy_times-3.new.self ≡ record {
  demands = map (λ a. c.args.m *ℤ a) c.args.from.now.demand.demands;
  lists = c.args.from.now.demand.lists;
  capacities = map (λ a. c.args.m *ℤ a) c.args.from.now.demand.capacities;
}
demand_is c =
    let fm : FitsSigned w128 c.args.m = c.ranges.m in
    rw c.requires.lists at (simp to_z-of_z at c.copy_times-3.ensures)

pub invariant_of-self : goal.invariant_of-self
invariant_of-self c =
    let path = goal.at.invariant_of-self c in
    let m = c.args.m in
    let s = c.args.self.now in
    let o = c.args.from.now in
    let r = c.requires in
    let put = c.forget.ensures in
    let demand = demand_is path.After-copy_times-3 in
    let amounts = amounts_are path.After-copy_times in
    let rooms = rooms_are path.After-copy_times-2 in
    let (whos, slots) = cells_same path.Start in
    let long : length c.copy_times-3.new.self.demands ≡ length s.demand.demands =
    ap (λ (d : Demands). length d.demands) demand
    ∙ (length-map o.demand.demands (λ a. m *ℤ a)
    ∙ (sym c.demands-other.ensures.sound.same
    ∙ (sym (ap length r.lists) ∙ c.demands-sound.ensures.sound.same))) in
    let (few, known) = answers_anew (length c.copy_times-3.new.self.demands)
    s.shares.cells.whos.items s.shares.cells.slots.items _ _ s.beside.answers
    c.forget.new.self.answers (length s.demand.demands) s.few long put.same put.none in
    record {
      met = rw (demand, amounts, whos, slots)
          (met_times m r.low o.demand _ _ o.shares.y.items o.met);
      left = rw (demand, amounts, rooms, slots)
          (left_times m o.demand.capacities _ o.shares.y.items o.rooms.items o.left);
      few = few;
      each = ap length put.asking ∙ (s.each ∙ sym long);
      asked = λ h. absurd (both_ways _ put.counted h);
      known = known;
    }

pub returns : goal.returns
returns c = demand_is (goal.at.returns c).After-copy_times-3
