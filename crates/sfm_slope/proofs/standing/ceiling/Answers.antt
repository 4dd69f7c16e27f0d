use Rattle.std.proofs.Common.{pos, ◌-ℤ◌, ◌*ℤ◌, ◌≤ℤ◌, FitsSigned, arith}
use Rattle.std.proofs.Math.IntN.{*ℤ-zero}
use Rattle.std.proofs.lemmas.Int.{ints, to_z-of_z}
use mir.Syntax.{w128}
use Rattle.sfm_spec.proofs.Scaled.{times-sub}
use Rattle.sfm_slope.proofs.standing.ceiling.Goals as goal

pub returns-clause-high : goal.returns-clause-high
returns-clause-high c =
    let s = c.args.slope in
    let r = c.whole_below.result in
    let small = c.whole_below.ensures.small in
    let fn : FitsSigned w128 s.num = omega (arith, ints, s.entry.low, s.entry.high) in
    let fo : FitsSigned w128 (pos 0 -ℤ s.num) = omega (arith, ints, s.entry.low, s.entry.high) in
    let fq : FitsSigned w128 s.den = omega (arith, ints, s.factor.low, s.factor.high) in
    let fr : FitsSigned w128 r = omega (arith, ints, small.low, small.high) in
    let fz : FitsSigned w128 (pos 0 -ℤ r) = omega (arith, ints, small.low, small.high) in
    let low : (s.den *ℤ r) ≤ℤ (pos 0 -ℤ s.num) = simp to_z-of_z at c.whole_below.ensures.low in
    let turned = times-sub s.den (pos 0) r in
    let none = *ℤ-zero s.den in
    simp to_z-of_z (omega (arith, ints, low, turned, none))
