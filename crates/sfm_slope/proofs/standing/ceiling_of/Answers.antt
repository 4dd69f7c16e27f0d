use Rattle.std.proofs.Common.{◌≡◌, ◌≤ℤ◌, ℤ, to_z, FitsSigned, rules, arith}
use Rattle.std.specs.Int.{int_max}
use Rattle.std.proofs.lemmas.Int.{clamps, ints, to_z-of_z}
use mir.Syntax.{w128}
use Rattle.sfm_slope.proofs.Reached.{high_more}
use Rattle.sfm_slope.proofs.standing.ceiling_of.Goals as goal

pub loop-point-preserved : goal.loop-point-preserved
loop-point-preserved c =
    let before : ℤ = to_z w128 c.loop-point.high-bits in
    let here = c.ceiling.result in
    let m = c.max-high.result in
    let point = c.point-item.result in
    let fm : FitsSigned w128 m = search rules in
    let fh : FitsSigned w128 here = search rules in
    let is : m ≡ int_max before here = simp to_z-of_z at c.max-high.ensures.value in
    let inv = c.loop-point.invariant in
    let small = c.ceiling.ensures.small in
    let one : before ≤ℤ m = omega (arith, ints, clamps, is) in
    let two : here ≤ℤ m = omega (arith, ints, clamps, is) in
    simp to_z-of_z (
      record {
        low = omega (arith, ints, one, inv.0.low);
        high = omega (arith, ints, clamps, is, inv.0.high, small.high);
      },
      high_more c.args.found.now c.loop-point.point-index before here m point c.loop-point-test.true
          c.point-item.is one two c.ceiling.ensures.high inv.1,
    )
