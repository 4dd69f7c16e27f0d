use Rattle.std.proofs.Common.{get_or, pos, arith}
use Rattle.std.proofs.lemmas.Int.{ints}
use Rattle.std.proofs.lemmas.List.Elements.{All-get_or}
use Rattle.sfm_spec.specs.Bounds.{IsEntry}
use Rattle.sfm_law.proofs.Totals.{total_of-drop}
use Rattle.sfm_law.proofs.numbers.sum_of.Goals as goal

pub overflow_add-sum : goal.overflow_add-sum
overflow_add-sum c =
    let x = c.args.x.now in
    let i = c.loop-a.a-index in
    let a : IsEntry (get_or x i (pos 0)) = All-get_or IsEntry x i (pos 0) c.loop-a-test.true
    c.requires.small in
    let inv = c.loop-a.invariant in
    omega (arith, ints, inv.low, inv.high)

pub loop-a-preserved : goal.loop-a-preserved
loop-a-preserved c =
    let x = c.args.x.now in
    let i = c.loop-a.a-index in
    let a : IsEntry (get_or x i (pos 0)) = All-get_or IsEntry x i (pos 0) c.loop-a-test.true
    c.requires.small in
    let step = total_of-drop x i c.loop-a-test.true in
    let inv = c.loop-a.invariant in
    record {
      so_far = omega (arith, ints, step, inv.so_far, inv.low, inv.high);
      low = omega (arith, ints, inv.low, inv.high);
      high = omega (arith, ints, inv.low, inv.high);
    }
