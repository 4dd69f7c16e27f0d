use Rattle.std.proofs.Common.{drop, get_or, pos, ◌+ℤ◌, ◌≤ℤ◌, FitsSigned, arith}
use Rattle.std.proofs.lemmas.Int.{ints, to_z-of_z}
use Rattle.std.proofs.lemmas.List.Elements.{All-drop}
use mir.Syntax.{w128}
use mir.Val.{to_z}
use Rattle.sfm_sizes.proofs.Sized.{size-at}
use Rattle.sfm_sizes.proofs.Weighing.{weight-bounds, weight-step}
use Rattle.sfm_sizes.proofs.weights.weight_of.Goals as goal
use Rattle.sfm_sizes.proofs.weights.weight_of.Goals.{then-contains, else-contains}

pub overflow_add-weight : goal.overflow_add-weight
overflow_add-weight c =
    let sizes = c.args.sizes.now in
    let e = c.loop-e.e in
    let r = c.requires.sizes in
    let inv = c.loop-e.invariant in
    let (one, most) = size-at _ sizes e r c.loop-e-test.true in
    let fw : FitsSigned w128 (get_or sizes e (pos 0)) = omega (arith, ints, one, most) in
    let step = weight-step _ c.args.set.now sizes e _ r r.places c.loop-e-test.true inv.low
    inv.so_far in
    let (_, low, high) = rw (← c.contains.ensures, c.if-contains.true) at step in
    simp to_z-of_z (omega (arith, ints, low, high))

pub loop-e-preserved : goal.loop-e-preserved
loop-e-preserved c =
    let sizes = c.args.sizes.now in
    let e = c.loop-e.e in
    let r = c.requires.sizes in
    let inv = c.loop-e.invariant in
    let (one, most) = size-at _ sizes e r c.loop-e-test.true in
    let fw : FitsSigned w128 (get_or sizes e (pos 0)) = omega (arith, ints, one, most) in
    let step = weight-step _ c.args.set.now sizes e _ r r.places c.loop-e-test.true inv.low
    inv.so_far in
    elim c.if-contains.branch [
      | then-contains w ↦
          let (so_far, low, high) = rw (← c.contains.ensures, w.if-contains.true) at step in
          let fits : FitsSigned w128 (to_z w128 c.loop-e.weight-bits +ℤ get_or sizes e (pos 0))
          = omega (arith, ints, low, high) in
          let is = simp to_z-of_z at w.weight-is in
          record { so_far = rw is so_far; low = rw is low }
      | else-contains w ↦
          let (so_far, low, high) = rw (← c.contains.ensures, w.if-contains.false) at step in
          record {
            so_far = omega (arith, ints, so_far, w.weight-is);
            low = omega (arith, ints, low, w.weight-is);
          }
    ]

pub returns-clause-high : goal.returns-clause-high
returns-clause-high c =
    let r = c.requires.sizes in
    let inv = c.loop-e.invariant in
    let rest = weight-bounds (drop c.loop-e.e c.args.set.now) (drop c.loop-e.e c.args.sizes.now)
    (All-drop (λ w. pos 1 ≤ℤ w) c.loop-e.e c.args.sizes.now r.positive) in
    let all = weight-bounds c.args.set.now c.args.sizes.now r.positive in
    omega (arith, ints, inv.so_far, rest.0, all.1)
