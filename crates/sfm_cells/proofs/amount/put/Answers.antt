use Rattle.std.proofs.Common.{get_or, pos, ◌+ℤ◌, arith, rules, FitsSigned}
use Rattle.std.proofs.lemmas.Int.{ints, to_z-of_z}
use mir.Syntax.{w128}
use Rattle.sfm_cells.proofs.amount.put.Goals as goal

pub overflow_add-to : goal.overflow_add-to
overflow_add-to c =
    let f : FitsSigned w128 (get_or c.args.to.now c.args.k (pos 0)) = search rules in
    let g : FitsSigned w128 c.args.a = c.ranges.a in
    let low = c.requires.low in
    let high = c.requires.high in
    omega (arith, ints, low, high)

pub returns : goal.returns
returns c =
    let f : FitsSigned w128 (get_or c.args.to.now c.args.k (pos 0)) = search rules in
    let g : FitsSigned w128 c.args.a = c.ranges.a in
    let low = c.requires.low in
    let high = c.requires.high in
    let h : FitsSigned w128 (get_or c.args.to.now c.args.k (pos 0) +ℤ c.args.a) = omega (
      arith,
      ints,
      low,
      high,
    ) in
    simp to_z-of_z
