use Rattle.std.proofs.Common.{get_or, pos, arith, FitsSigned}
use Rattle.std.proofs.lemmas.Int.{ints, to_z-of_z}
use Rattle.std.proofs.lemmas.List.Elements.{All-get_or}
use mir.Syntax.{w128}
use Rattle.sfm_spec.proofs.Sums.{magnitudes-drop}
use Rattle.sfm_spec.specs.Bounds.{IsGiven}
use Rattle.sfm_law.proofs.Fits.{given_fits}
use Rattle.sfm_simple.proofs.weight.sum_magnitudes.Goals as goal

pub loop-w-preserved : goal.loop-w-preserved
loop-w-preserved c =
    let weights = c.args.weights.now in
    let i = c.loop-w.w-index in
    let w : IsGiven (get_or weights i (pos 0)) = All-get_or IsGiven weights i (pos 0)
    c.loop-w-test.true c.requires.given in
    let f : FitsSigned w128 (get_or weights i (pos 0)) = given_fits _ w in
    let step = magnitudes-drop weights i c.loop-w-test.true in
    let added = simp to_z-of_z at c.magnitude-total.ensures in
    let inv = c.loop-w.invariant in
    record {
      so_far = omega (arith, ints, step, added, inv.so_far);
      low = omega (arith, ints, added, inv.low, inv.high);
      high = omega (arith, ints, added, w.low, w.high, inv.low, inv.high);
    }
