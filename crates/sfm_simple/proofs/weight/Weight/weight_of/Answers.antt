use Rattle.std.proofs.Common.{◌<◌, length, get_or, pos, arith, FitsSigned}
use Rattle.std.proofs.lemmas.Int.{ints, to_z-of_z}
use Rattle.std.proofs.lemmas.List.Elements.{All-get_or}
use mir.Syntax.{w128}
use Rattle.sfm_spec.proofs.Sums.{sum_over-drop}
use Rattle.sfm_spec.specs.Bounds.{IsGiven}
use Rattle.sfm_law.proofs.Fits.{given_fits}
use Rattle.sfm_simple.proofs.weight.Weight.weight_of.Goals as goal

pub loop-j-preserved : goal.loop-j-preserved
loop-j-preserved c =
    let me = c.args.self.now in
    let j = c.loop-j.j in
    let kw : j < length me.weights = rw (← c.as_slice-w-items.ensures) c.loop-j-test.true in
    let ks : j < length c.args.s.now = omega (arith, me.same_count) in
    let w : IsGiven (get_or me.weights j (pos 0)) = All-get_or IsGiven me.weights j (pos 0) kw
    me.given in
    let f : FitsSigned w128 (get_or me.weights j (pos 0)) = given_fits _ w in
    let step = sum_over-drop c.args.s.now me.weights j ks kw in
    let added = simp to_z-of_z at
    (rw (c.as_slice-w-items.ensures, c.contains.ensures) at c.share-sum.ensures) in
    let inv = c.loop-j.invariant in
    let small = c.share-sum.ensures.given in
    record {
      so_far = omega (arith, ints, step, added, inv.so_far);
      low = omega (arith, ints, inv.low, inv.high);
      high = omega (arith, ints, inv.low, inv.high);
    }
