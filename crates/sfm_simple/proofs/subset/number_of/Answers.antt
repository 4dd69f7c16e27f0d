use Rattle.std.proofs.Common.{◌<◌, length, sym, arith}
use Rattle.sfm_simple.proofs.Steps.{number_with, number_without, double}
use Rattle.sfm_simple.proofs.subset.number_of.Goals as goal
use Rattle.sfm_simple.proofs.subset.number_of.Goals.{then-contains, else-contains}

pub loop-j-preserved : goal.loop-j-preserved
loop-j-preserved c =
    let s = c.args.s.now in
    let j = c.loop-j.j in
    let h : j < length s = omega arith in
    let inv = c.loop-j.invariant in
    let d = double j in
    elim c.if-contains.branch [
      | then-contains w ↦
          (let e = number_with s j c.loop-j.number _ h (sym w.if-contains.ensures) inv.so_far in
          record {
            so_far = rw (w.number-is, w.unit-number.ensures) e;
            below = omega (arith, d, inv.below, w.number-is, w.unit-number.ensures);
          })
      | else-contains w ↦
          (let e = number_without s j c.loop-j.number _ h (sym w.if-contains.ensures) inv.so_far in
          record { so_far = rw w.number-is e; below = omega (arith, d, inv.below, w.number-is) })
    ]
