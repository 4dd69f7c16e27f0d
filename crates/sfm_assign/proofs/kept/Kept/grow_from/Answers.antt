use Rattle.std.proofs.Common.{◌≡◌, ℤ, length, sym, ap, ◌∙◌, rules, FitsSigned, length-set}
use Rattle.std.proofs.lemmas.Int.{to_z-of_z}
use Rattle.std.proofs.lemmas.Bool.{both_ways}
use mir.Syntax.{w128}
use Rattle.sfm_cells.specs.Cells.{joined, owners}
use Rattle.sfm_cells.specs.Splits.{Demands}
use Rattle.sfm_split.specs.Changes.{changed, changed_demands}
use Rattle.sfm_split.proofs.Changes.{length-changed}
use Rattle.sfm_assign.proofs.Spreads.{answers_anew}
use Rattle.sfm_assign.proofs.kept.Kept.grow_from.Goals.{In_ok-more, After-change_all}
use Rattle.sfm_assign.proofs.kept.Kept.grow_from.Goals as goal

pub find_raised-requires : goal.find_raised-requires
find_raised-requires c =
    let fl : FitsSigned w128 c.args.limit = c.ranges.limit in
    let r = c.requires in
    record {
      changes = r.changes;
      slots = r.other_slots;
      bounded = r.bounded;
      met = r.met;
      place = r.place;
      low = simp to_z-of_z r.low;
      small = simp to_z-of_z r.small;
    }

-- both splits have as many demands
sized : (c : In_ok-more) → length c.args.from.now.demand.demands ≡ length
    c.args.self.now.demand.demands
sized c =
    sym c.demands-before.ensures.sound.same ∙ (sym (ap length c.requires.lists)
    ∙ c.demands-sound.ensures.sound.same)

pub copy_from-requires : goal.copy_from-requires
copy_from-requires c =
    let r = c.requires in
    let before = c.demands-before.ensures in
    rw before.value (record {
      places = sized (goal.at.copy_from-requires c).In_ok-more;
      slots = r.slots;
      amounts = before.sound.amounts;
      bounded = r.bounded;
    })

pub change_all-requires : goal.change_all-requires
change_all-requires c =
    rw (c.copy_from.ensures, c.demands-before.ensures.value) c.requires.changes

-- the demands of the other split, changed
taken : (c : After-change_all) → c.change_all.new.demand ≡ changed_demands
    c.args.steps.now.changes.now c.args.steps.now.capacities.now c.args.from.now.demand
taken c =
    rw (c.copy_from.ensures, c.demands-before.ensures.value, c.requires.lists) at
    c.change_all.ensures

pub raise-requires : goal.raise-requires
raise-requires c =
    let more : ℤ = c.in_ok-more.more in
    let fm : FitsSigned w128 more = search rules in
    let e = taken (goal.at.raise-requires c).After-change_all in
    record {
      place = rw (
        e,
        length-changed c.args.steps.now.changes.now c.args.from.now.demand.demands,
      ) c.requires.place;
      amount = rw e (simp to_z-of_z c.in_ok-more.ensures.amount);
    }

pub invariant_of-self : goal.invariant_of-self
invariant_of-self c = let k = c.args.self.now in record {
  met = k.met;
  left = k.left;
  few = k.few;
  each = k.each;
  asked = k.asked;
  known = k.known;
}

pub invariant_of-self-2 : goal.invariant_of-self-2
invariant_of-self-2 c =
    let path = goal.at.invariant_of-self-2 c in
    let put = c.put.ensures in
    let s = c.args.self.now in
    let o = c.args.from.now in
    let r = c.requires in
    let changes = c.args.steps.now.changes.now in
    let more : ℤ = c.in_ok-more.more in
    let fm : FitsSigned w128 more = search rules in
    let done = c.in_ok-more.ensures in
    let e = rw (taken path.After-change_all) at (simp to_z-of_z at c.raise.ensures) in
    let whos : s.shares.cells.whos.items ≡ o.shares.cells.whos.items = s.met.in_order
    ∙ (ap (owners 0) r.lists ∙ sym o.met.in_order) in
    let slots : s.shares.cells.slots.items ≡ o.shares.cells.slots.items = s.met.in_lists
    ∙ (ap joined r.lists ∙ sym o.met.in_lists) in
    let long : length c.raise.new.self.demands ≡ length
    s.demand.demands = ap (λ (d : Demands). length d.demands) e
    ∙ (length-set (changed changes o.demand.demands) c.args.u _
    ∙ (length-changed changes o.demand.demands ∙ sized path.In_ok-more)) in
    let (few, known) = answers_anew (length c.raise.new.self.demands) s.shares.cells.whos.items
    s.shares.cells.slots.items c.put.new.y.items c.put.new.rooms.items s.beside.answers
    c.put.new.self.answers (length s.demand.demands) s.few long put.same put.none in
    record {
      met = rw (e, put.amounts, whos, slots) done.met;
      left = rw (e, put.amounts, put.rooms, slots) done.left;
      few = few;
      each = ap length put.asking ∙ (s.each ∙ sym long);
      asked = λ h. absurd (both_ways _ put.counted h);
      known = known;
    }

pub returns-clause-unchanged : goal.returns-clause-unchanged
returns-clause-unchanged c = tt

pub returns-clause-grown : goal.returns-clause-grown
returns-clause-grown c =
    rw (taken (goal.at.returns-clause-grown c).After-change_all) at c.raise.ensures

pub returns-clause-most : goal.returns-clause-most
returns-clause-most c =
    let more : ℤ = c.in_ok-more.more in
    let fm : FitsSigned w128 more = search rules in
    let fl : FitsSigned w128 c.args.limit = c.ranges.limit in
    let h = simp to_z-of_z at c.in_ok-more.ensures.most in
    simp to_z-of_z h
