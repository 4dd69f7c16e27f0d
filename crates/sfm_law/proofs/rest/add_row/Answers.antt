use Rattle.std.proofs.Common.{◌≡◌, get_or, pos, ◌+ℤ◌, to_z, of_z, FitsSigned, rules, arith}
use Rattle.std.proofs.lemmas.Int.{ints}
use mir.Syntax.{w128}
use Rattle.sfm_law.proofs.Rests.{added-bound, added_at}
use Rattle.sfm_law.proofs.rest.add_row.Goals as goal

pub overflow_add-z : goal.overflow_add-z
overflow_add-z c =
    let z = c.loop-j.z in
    let j = c.loop-j.j in
    let p = get_or c.args.places.now j 0 in
    let r = c.requires in
    let fa : FitsSigned w128 (get_or z p (pos 0)) = search rules in
    let fb : FitsSigned w128 (get_or c.args.row.now j (pos 0)) = search rules in
    let b = added-bound c.args.places.now c.args.row.now c.args.z.now z j r.placed r.few r.entries
    r.small r.room c.loop-j.auto.z c.loop-j-test.true c.loop-j.invariant in
    omega (arith, ints, fa, fb, b.low, b.high)

pub loop-j-preserved : goal.loop-j-preserved
loop-j-preserved c =
    let z = c.loop-j.z in
    let x = c.args.row.now in
    let j = c.loop-j.j in
    let places = c.args.places.now in
    let p = get_or places j 0 in
    let fa : FitsSigned w128 (get_or z p (pos 0)) = search rules in
    let fb : FitsSigned w128 (get_or x j (pos 0)) = search rules in
    let fits = overflow_add-z c in
    let same : to_z w128 (of_z w128
    (to_z w128 (of_z w128 (get_or z p (pos 0))) +ℤ to_z w128 (of_z w128 (get_or x j (pos 0)))))
    ≡ (get_or z p (pos 0) +ℤ get_or x j (pos 0)) = omega (arith, ints, fa, fb, fits) in
    λ e l. rw same (added_at places x c.args.z.now z j e c.loop-j-test.true c.requires.entries
    (rw same at l) c.loop-j.invariant)
