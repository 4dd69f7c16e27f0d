use Rattle.std.proofs.Common.{get_or, ℤ, pos, ◌-ℤ◌, ap, arith, rules, FitsSigned}
use Rattle.std.proofs.lemmas.Int.{ints}
use mir.Syntax.{w128}
use Rattle.sfm_cells.specs.Splits.{amount_at}
use Rattle.sfm_split.proofs.lower.Side.excess.Goals as goal

pub overflow_sub-result : goal.overflow_sub-result
overflow_sub-result c =
    let x : ℤ = get_or c.of-totals.result.now c.args.k (pos 0) in
    let fx : FitsSigned w128 x = search rules in
    let is = ap (λ xs. amount_at xs c.args.k) c.of-totals.ensures in
    let small = c.requires.small in
    omega (arith, ints, is, small)

pub returns : goal.returns
returns c =
    let x : ℤ = get_or c.of-totals.result.now c.args.k (pos 0) in
    let fx : FitsSigned w128 x = search rules in
    let is = ap (λ xs. amount_at xs c.args.k) c.of-totals.ensures in
    let small = c.requires.small in
    let fn : FitsSigned w128 (pos 0 -ℤ x) = omega (arith, ints, is, small) in
    omega (arith, ints, is)
