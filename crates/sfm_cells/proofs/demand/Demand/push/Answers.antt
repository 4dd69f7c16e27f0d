use Rattle.std.proofs.Common.{◌<◌, ◌++◌, ◌∷◌, [], List, ℕ, ℤ, length, ap, arith, FitsSigned}
use Rattle.std.specs.List.{All}
use Rattle.std.proofs.lemmas.Int.{to_z-of_z}
use Rattle.std.proofs.lemmas.List.{length_push}
use Rattle.std.proofs.lemmas.List.Elements.{All-push}
use mir.Syntax.{w128}
use Rattle.sfm_cells.specs.Splits.{AreDemands, Demands, IsAmount}
use Rattle.sfm_cells.proofs.demand.Demand.push.Goals as goal

-- with a demand at the end
pushed : (d : Demands) (a : ℤ) (list : List ℕ) → length d.demands < 256 → IsAmount a
    → All (λ s. s < length d.capacities) list → AreDemands d
    → AreDemands (record {
      demands = d.demands ++ a ∷ [];
      lists = d.lists ++ list ∷ [];
      capacities = d.capacities;
    })
pushed d a list few amount exist h =
    let l = length_push d.demands a in
    let m = length_push d.lists list in
    let same = h.same in
    record {
      same = omega (arith, l, m, same);
      few = omega (arith, l, few);
      few_slots = h.few_slots;
      amounts = All-push IsAmount d.demands a h.amounts amount;
      bounded = h.bounded;
      exist = All-push (All (λ s. s < length d.capacities)) d.lists list h.exist exist;
    }

pub invariant_of-self-then-put_list : goal.invariant_of-self-then-put_list
invariant_of-self-then-put_list c =
    let r = c.requires in
    let fd : FitsSigned w128 c.args.d = c.ranges.d in
    let d : Demands = record {
      demands = c.self.inside.demands.items;
      lists = c.self.inside.lists;
      capacities = c.self.inside.capacities.items;
    } in
    let long = ap (λ (t : Demands). length t.demands) c.self.view_is in
    let wide = ap (λ (t : Demands). length t.capacities) c.self.view_is in
    let few = r.few in
    rw (c.in_ok-push.ensures.items, rw c.if-put_list.true at c.put_list.ensures)
    (simp to_z-of_z (pushed d c.args.d c.args.slots.now (omega (arith, long, few)) r.amount
    (rw wide r.exist) c.self.invariant))

pub returns-then-put_list : goal.returns-then-put_list
returns-then-put_list c =
    let fd : FitsSigned w128 c.args.d = c.ranges.d in
    rw (c.in_ok-push.ensures.items, rw c.if-put_list.true at c.put_list.ensures)
    (simp to_z-of_z
    (ap (λ (t : Demands). record {
      demands = t.demands ++ c.args.d ∷ [];
      lists = t.lists ++ c.args.slots.now ∷ [];
      capacities = t.capacities;
    }) c.self.view_is))

pub invariant_of-self : goal.invariant_of-self
invariant_of-self c = rw c.in_err-push.ensures.items c.self.invariant
