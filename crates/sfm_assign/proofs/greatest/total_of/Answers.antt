use Rattle.std.proofs.Common.{ap, get_or, pos, arith}
use Rattle.std.proofs.lemmas.Int.{ints}
use Rattle.std.proofs.lemmas.List.{drop_more}
use Rattle.std.proofs.lemmas.List.Elements.{All-get_or}
use Rattle.sfm_spec.specs.Bounds.{total_of}
use Rattle.sfm_cells.specs.Splits.{IsCapacity}
use Rattle.sfm_assign.proofs.greatest.total_of.Goals as goal

pub overflow_add-sum : goal.overflow_add-sum
overflow_add-sum c =
    let x = c.args.capacities.now in
    let i = c.loop-c.c-index in
    let a : IsCapacity (get_or x i (pos 0)) = All-get_or IsCapacity x i (pos 0) c.loop-c-test.true
    c.requires.bounded in
    let few = c.requires.few in
    let low = c.loop-c.invariant.low in
    let high = c.loop-c.invariant.high in
    omega (arith, ints, a.low, a.high, few, low, high)

pub loop-c-preserved : goal.loop-c-preserved
loop-c-preserved c =
    let x = c.args.capacities.now in
    let i = c.loop-c.c-index in
    let a : IsCapacity (get_or x i (pos 0)) = All-get_or IsCapacity x i (pos 0) c.loop-c-test.true
    c.requires.bounded in
    let step = ap total_of (drop_more x i (pos 0) c.loop-c-test.true) in
    let few = c.requires.few in
    let inv = c.loop-c.invariant in
    record {
      so_far = omega (arith, ints, step, inv.so_far, inv.low, inv.high, a.low, a.high, few);
      low = omega (arith, ints, inv.low, inv.high, a.low, a.high, few);
      high = omega (arith, ints, inv.low, inv.high, a.low, a.high, few);
    }
