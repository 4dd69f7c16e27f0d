use Rattle.std.proofs.Common.{◌≡◌, ◌+◌, ◌^◌, get_or, drop, pos, ◌≤ℤ◌, to_z, FitsSigned, rules, arith}
use Rattle.std.specs.Int.{int_min}
use Rattle.std.proofs.lemmas.Int.{ints, to_z-of_z}
use Rattle.std.proofs.lemmas.List.{at_drop_all}
use mir.Syntax.{w128}
use Rattle.sfm_spec.specs.Sets.{magnitudes}
use Rattle.sfm_extreme.proofs.Deficits.{deficit_list, deficit-list, deficit_step, magnitudes-low}
use Rattle.sfm_extreme.proofs.deficit.deficit_of.Goals as goal

pub overflow_add-sum : goal.overflow_add-sum
overflow_add-sum c =
    let z = c.args.z.now in
    let i = c.loop-a.a-index in
    let fa : FitsSigned w128 (get_or z i (pos 0)) = search rules in
    let m : c.min-sum.result ≡ int_min (get_or z i (pos 0)) (pos 0) = simp to_z-of_z at
    c.min-sum.ensures.value in
    let s = deficit_step z i (to_z w128 c.loop-a.sum-bits) c.loop-a-test.true c.loop-a.invariant.0
    c.loop-a.invariant.1 c.loop-a.invariant.2 in
    let bound : magnitudes z ≤ℤ pos (10 ^ 37) = c.requires in
    let low = magnitudes-low (drop (i + 1) z) in
    omega (arith, ints, m, s.1, s.2, bound, low)

pub loop-a-preserved : goal.loop-a-preserved
loop-a-preserved c =
    let z = c.args.z.now in
    let i = c.loop-a.a-index in
    let fa : FitsSigned w128 (get_or z i (pos 0)) = search rules in
    let m : c.min-sum.result ≡ int_min (get_or z i (pos 0)) (pos 0) = simp to_z-of_z at
    c.min-sum.ensures.value in
    let s = deficit_step z i (to_z w128 c.loop-a.sum-bits) c.loop-a-test.true c.loop-a.invariant.0
    c.loop-a.invariant.1 c.loop-a.invariant.2 in
    let fits = overflow_add-sum c in (
      omega (arith, ints, m, s.0, fits),
      omega (arith, ints, m, s.1, fits),
      omega (arith, ints, m, s.2, fits),
    )

pub returns : goal.returns
returns c =
    let z = c.args.z.now in
    let i = c.loop-a.a-index in
    let e = at_drop_all deficit_list z i c.loop-a-test.false in
    let s = c.loop-a.invariant.0 in
    let d = deficit-list z in
    omega (arith, ints, e, s, d)
