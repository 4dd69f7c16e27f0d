use Rattle.std.proofs.Common.{◌≡◌, set, length, ℤ, pos, ap, ◌∙◌, arith, rules, FitsSigned, length-set}
use Rattle.std.proofs.lemmas.Int.{ints, to_z-of_z}
use mir.Syntax.{w128}
use Rattle.sfm_spec.specs.Bounds.{total_of}
use Rattle.sfm_cells.specs.Splits.{amount_at, Demands}
use Rattle.sfm_cells.proofs.Outcomes.{changed-at, most_from}
use Rattle.sfm_assign.proofs.greatest.most.Goals.{In-Ok}
use Rattle.sfm_assign.proofs.greatest.most.Goals as goal

-- what is kept are the demands with nothing at the one
others : (c : In-Ok) → c.in-Ok.kept.demand
    ≡ record {
      demands = set c.args.demand.now.demands c.args.u (pos 0);
      lists = c.args.demand.now.lists;
      capacities = c.args.demand.now.capacities;
    }
others c = c.in-Ok.ensures ∙ c.in_ok-others.ensures

pub grow-requires-clause-small : goal.grow-requires-clause-small
grow-requires-clause-small c =
    let d = c.args.demand.now in
    let same = others (goal.at.grow-requires-clause-small c).In-Ok in
    let s : ℤ = c.total_of-limit.result in
    let fs : FitsSigned w128 s = search rules in
    let none = ap (λ (k : Demands). amount_at k.demands c.args.u) same
    ∙ changed-at d.demands c.args.u c.requires.place (pos 0) in
    let low = c.total_of-limit.ensures.amount.low in
    let high = c.total_of-limit.ensures.amount.high in
    record { low = omega (arith, ints, none, low); high = omega (arith, ints, none, high) }

pub returns-in-Ok : goal.returns-in-Ok
returns-in-Ok c =
    let d = c.args.demand.now in
    let same = others (goal.at.returns-in-Ok c).In-Ok in
    let s : ℤ = c.total_of-limit.result in
    let fs : FitsSigned w128 s = search rules in
    let g : ℤ = c.in_ok-more-in-Ok.more in
    let fg : FitsSigned w128 g = search rules in
    let h = rw (same, to_z-of_z w128 s fs) at c.in_ok-more-in-Ok.ensures.most in
    rw (to_z-of_z w128 g fg) (most_from d c.demands-sound.ensures.sound c.args.u c.requires.place s
    g (c.total_of-limit.ensures.total ∙ ap total_of c.capacities.ensures) h)

pub total_of-limit-requires-clause-few : goal.total_of-limit-requires-clause-few
total_of-limit-requires-clause-few c =
    rw c.capacities.ensures c.demands-sound.ensures.sound.few_slots

pub total_of-limit-requires-clause-bounded : goal.total_of-limit-requires-clause-bounded
total_of-limit-requires-clause-bounded c =
    rw c.capacities.ensures c.demands-sound.ensures.sound.bounded

pub grow-requires-clause-place : goal.grow-requires-clause-place
grow-requires-clause-place c =
    let same = others (goal.at.grow-requires-clause-place c).In-Ok in
    let place = c.requires.place in
    let long = ap (λ (k : Demands). length k.demands) same
    ∙ length-set c.args.demand.now.demands c.args.u (pos 0) in
    omega (arith, place, long)

pub grow-requires-clause-low : goal.grow-requires-clause-low
grow-requires-clause-low c =
    let s : ℤ = c.total_of-limit.result in
    let fs : FitsSigned w128 s = search rules in
    simp to_z-of_z c.total_of-limit.ensures.amount.low
