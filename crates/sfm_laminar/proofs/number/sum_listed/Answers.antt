use Rattle.std.proofs.Common.{◌<◌, length, get_or, pos, arith}
use Rattle.std.proofs.lemmas.Int.{ints}
use Rattle.std.proofs.lemmas.List.Elements.{All-get_or}
use Rattle.sfm_spec.specs.Bounds.{IsEntry}
use Rattle.sfm_laminar.proofs.Listed.{sum_listed-drop}
use Rattle.sfm_laminar.proofs.number.sum_listed.Goals as goal

pub overflow_add-sum : goal.overflow_add-sum
overflow_add-sum c =
    let x = c.args.x.now in
    let es = c.args.members.now in
    let i = c.loop-e.e-index in
    let lt : get_or es i 0 < length x = All-get_or (λ e. e < length x) es i 0 c.loop-e-test.true
    c.requires.below in
    let a : IsEntry (get_or x (get_or es i 0) (pos 0)) = All-get_or IsEntry x (get_or es i 0)
    (pos 0) lt c.requires.small in
    let inv = c.loop-e.invariant in
    let few = c.requires.few in
    omega (arith, ints, inv.low, inv.high)

pub loop-e-preserved : goal.loop-e-preserved
loop-e-preserved c =
    let x = c.args.x.now in
    let es = c.args.members.now in
    let i = c.loop-e.e-index in
    let lt : get_or es i 0 < length x = All-get_or (λ e. e < length x) es i 0 c.loop-e-test.true
    c.requires.below in
    let a : IsEntry (get_or x (get_or es i 0) (pos 0)) = All-get_or IsEntry x (get_or es i 0)
    (pos 0) lt c.requires.small in
    let step = sum_listed-drop es x i c.loop-e-test.true in
    let inv = c.loop-e.invariant in
    record {
      so_far = omega (arith, ints, step, inv.so_far, inv.low, inv.high);
      low = omega (arith, ints, inv.low, inv.high);
      high = omega (arith, ints, inv.low, inv.high);
    }
