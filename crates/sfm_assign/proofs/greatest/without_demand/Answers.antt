use Rattle.std.proofs.Common.{◌≡◌, get_or, ℤ, pos, ◌+ℤ◌, ◌-ℤ◌, ap, arith, rules, to_z, of_z, FitsSigned}
use Rattle.std.proofs.lemmas.Int.{ints}
use mir.Syntax.{w128}
use Rattle.sfm_cells.specs.Splits.{amount_at}
use Rattle.sfm_cells.proofs.Outcomes.{amounts_low}
use Rattle.sfm_assign.proofs.greatest.without_demand.Goals.{After-demands}
use Rattle.sfm_assign.proofs.greatest.without_demand.Goals as goal

pub raise-requires-clause-place : goal.raise-requires-clause-place
raise-requires-clause-place c = rw c.in_ok-others.ensures c.requires

pub bounds-demands-u : goal.bounds-demands-u
bounds-demands-u c = rw c.demands.ensures.value c.requires

-- with nothing for the demand
none : (c : After-demands) → (amount_at c.args.demand.now.demands c.args.u +ℤ to_z w128
    (of_z w128 (pos 0 -ℤ to_z w128 (of_z w128 (get_or c.demands.result.now c.args.u (pos 0))))))
    ≡ pos 0
none c =
    let u = c.args.u in
    let v : ℤ = get_or c.demands.result.now u (pos 0) in
    let fv : FitsSigned w128 v = search rules in
    let is = ap (λ xs. amount_at xs u) c.demands.ensures.value in
    let low = amounts_low c.args.demand.now c.demands.ensures.sound u c.requires in
    omega (arith, ints, is, low)

pub raise-requires-clause-amount : goal.raise-requires-clause-amount
raise-requires-clause-amount c =
    rw (c.in_ok-others.ensures, none (goal.at.raise-requires-clause-amount c).After-demands)
    (record { low = omega (arith, ints); high = omega (arith, ints) })

pub returns : goal.returns
returns c = rw (c.in_ok-others.ensures, none (goal.at.returns c).After-demands) at c.raise.ensures
