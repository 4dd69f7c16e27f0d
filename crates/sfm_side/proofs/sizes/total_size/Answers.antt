use Rattle.std.proofs.Common.{◌≡◌, ◌^◌, get_or, ℤ, pos, ◌≤ℤ◌, to_z, of_z, ap, ◌∙◌, arith}
use Rattle.std.specs.Int.{w128}
use Rattle.std.proofs.lemmas.Int.{ints}
use Rattle.std.proofs.lemmas.List.Elements.{All-get_or}
use Rattle.sfm_side.specs.SizeLines.{count_of}
use Rattle.sfm_side.proofs.Keeping.{count-low, count-high, counts-drop}
use Rattle.sfm_side.proofs.sizes.total_size.Goals as goal

pub loop-size-preserved : goal.loop-size-preserved
loop-size-preserved c =
    let x = c.args.kept.now in
    let i = c.loop-size.size-index in
    let w = All-get_or (λ (w : ℤ). (pos 0 ≤ℤ w) × (w ≤ℤ pos (10 ^ 6))) x i (pos 0)
    c.loop-size-test.true c.requires.each in
    let same : to_z w128 (of_z w128 (get_or x i (pos 0))) ≡ get_or x i
    (pos 0) = omega (arith, ints, w.0, w.1) in
    let is : c.counted-total.result ≡ count_of (get_or x i (pos 0)) = c.counted-total.ensures
    ∙ ap count_of same in
    let low = count-low (get_or x i (pos 0)) in
    let high = count-high (get_or x i (pos 0)) w.1 in
    let step = counts-drop x i c.loop-size-test.true in
    let inv = c.loop-size.invariant in
    record {
      so_far = omega (arith, ints, step, inv.so_far, inv.low, inv.high, is, low, high);
      low = omega (arith, ints, inv.low, inv.high, is, low, high);
      high = omega (arith, ints, inv.low, inv.high, is, low, high);
    }
