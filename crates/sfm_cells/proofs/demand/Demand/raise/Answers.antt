use Rattle.std.proofs.Common.{length, ◌<◌, ℤ, ◌+ℤ◌, pos, ap, sym, ◌∙◌, arith, rules, FitsSigned, length-set}
use Rattle.std.proofs.lemmas.Int.{ints, to_z-of_z}
use Rattle.std.proofs.lemmas.List.{get_or_read}
use Rattle.std.proofs.lemmas.List.Elements.{All-set}
use mir.Syntax.{w128}
use Rattle.sfm_cells.specs.Splits.{amount_at, IsAmount, Demands}
use Rattle.sfm_cells.proofs.demand.Demand.raise.Goals as goal

pub invariant_of-self : goal.invariant_of-self
invariant_of-self c =
    let inv = c.self.invariant in
    let u = c.args.u in
    let demands = c.self.inside.demands.items in
    let long = ap (λ (d : Demands). length d.demands) c.self.view_is in
    let same = ap (λ (d : Demands). amount_at d.demands u) c.self.view_is in
    let place = c.requires.place in
    let lt : u < length demands = omega (arith, long, place) in
    let x : ℤ = c.index_mut.result.now in
    let a : ℤ = c.args.a in
    let fx : FitsSigned w128 x = search rules in
    let fa : FitsSigned w128 a = c.ranges.a in
    let v = get_or_read demands u x lt c.index_mut.ensures.value (pos 0) in
    let low = c.requires.amount.low in
    let high = c.requires.amount.high in
    let amount : IsAmount (x +ℤ a) = record {
      low = omega (arith, ints, v, same, low);
      high = omega (arith, ints, v, same, high);
    } in
    let fs : FitsSigned w128 (x +ℤ a) = omega (arith, ints, v, same, low, high) in
    let l = length-set demands u (x +ℤ a) in
    let few = inv.few in
    simp to_z-of_z (record {
      same = inv.same ∙ sym l;
      few = omega (arith, l, few);
      few_slots = inv.few_slots;
      amounts = All-set IsAmount demands u (x +ℤ a) amount inv.amounts;
      bounded = inv.bounded;
      exist = inv.exist;
    })
