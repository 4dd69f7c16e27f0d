use Rattle.std.proofs.Common.{◌%◌, get_or, pos, arith, eq-eqb}
use Rattle.std.proofs.lemmas.Bool.{ne_eqb}
use Rattle.std.proofs.lemmas.Int.{ints}
use Rattle.std.proofs.lemmas.List.Elements.{All-get_or}
use Rattle.sfm_spec.specs.Bounds.{IsEntry}
use Rattle.sfm_simple.proofs.Steps.{sum_over-members}
use Rattle.sfm_simple.proofs.subset.sum_at.Goals as goal
use Rattle.sfm_simple.proofs.subset.sum_at.Goals.{then-rest-eq1, else-rest-eq1}

pub loop-a-preserved : goal.loop-a-preserved
loop-a-preserved c =
    let x = c.args.x.now in
    let i = c.loop-a.a-index in
    let a : IsEntry (get_or x i (pos 0)) = All-get_or IsEntry x i (pos 0) c.loop-a-test.true
    c.requires.small in
    let step = sum_over-members x i c.loop-a.rest c.loop-a-test.true in
    let inv = c.loop-a.invariant in
    elim c.if-rest-eq1.branch [
      | then-rest-eq1 w ↦
          (let odd = rw (eq-eqb (c.loop-a.rest % 2) 1 w.if-rest-eq1.true) at step in
          let is = w.sum-is in
          record {
            so_far = omega (arith, ints, odd, is, inv.so_far, inv.low, inv.high);
            low = omega (arith, ints, is, inv.low, inv.high);
            high = omega (arith, ints, is, inv.low, inv.high);
          })
      | else-rest-eq1 w ↦
          (let even = rw (ne_eqb (c.loop-a.rest % 2) 1 w.if-rest-eq1.false) at step in
          let is = w.sum-is in
          record {
            so_far = omega (arith, ints, even, is, inv.so_far);
            low = omega (arith, ints, is, inv.low);
            high = omega (arith, ints, is, inv.high);
          })
    ]
