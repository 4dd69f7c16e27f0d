use Rattle.std.proofs.Common.{◌≡◌, ◌≤ℤ◌, ℤ, to_z, FitsSigned, rules, arith}
use Rattle.std.specs.Int.{int_min}
use Rattle.std.proofs.lemmas.Int.{clamps, ints, to_z-of_z}
use mir.Syntax.{w128}
use Rattle.sfm_slope.proofs.Reached.{low_more}
use Rattle.sfm_slope.proofs.standing.floor_of.Goals as goal

pub loop-point-preserved : goal.loop-point-preserved
loop-point-preserved c =
    let before : ℤ = to_z w128 c.loop-point.low-bits in
    let here = c.whole_below.result in
    let m = c.min-low.result in
    let point = c.point-item.result in
    let s = point.slope in
    let fm : FitsSigned w128 m = search rules in
    let fh : FitsSigned w128 here = search rules in
    let fn : FitsSigned w128 s.num = omega (arith, ints, s.entry.low, s.entry.high) in
    let fq : FitsSigned w128 s.den = omega (arith, ints, s.factor.low, s.factor.high) in
    let is : m ≡ int_min before here = simp to_z-of_z at c.min-low.ensures.value in
    let inv = c.loop-point.invariant in
    let small = c.whole_below.ensures.small in
    let one : m ≤ℤ before = omega (arith, ints, clamps, is) in
    let two : m ≤ℤ here = omega (arith, ints, clamps, is) in
    simp to_z-of_z (
      record {
        low = omega (arith, ints, clamps, is, inv.0.low, small.low);
        high = omega (arith, ints, one, inv.0.high);
      },
      low_more c.args.found.now c.loop-point.point-index before here m point c.loop-point-test.true
          c.point-item.is one two (simp to_z-of_z at c.whole_below.ensures.low) inv.1,
    )
