use Rattle.std.proofs.Common.{◌≡◌, pos, ◌*ℤ◌, ◌≤ℤ◌, FitsSigned, rules, arith}
use Rattle.std.specs.Int.{int_div_euclid}
use Rattle.std.proofs.lemmas.Int.{ints, to_z-of_z}
use mir.Syntax.{w128}
use Rattle.sfm_slope.proofs.Floors.{floor-least}
use Rattle.sfm_slope.proofs.least.part_below.Goals as goal

pub returns-clause-least : goal.returns-clause-least
returns-clause-least c =
    let s = c.args.slope in
    let p = c.grains.result in
    let small = c.grains.ensures.small in
    let fp : FitsSigned w128 p = omega (arith, ints, small.low, small.high) in
    let fn : FitsSigned w128 s.num = omega (arith, ints, s.entry.low, s.entry.high) in
    let times : p ≡ (s.num *ℤ pos 64) = simp to_z-of_z at c.grains.ensures.times in
    let fq : FitsSigned w128 s.den = omega (arith, ints, s.factor.low, s.factor.high) in
    let fr : FitsSigned w128 c.div_euclid.result = search rules in
    let is : c.div_euclid.result ≡ int_div_euclid p s.den = simp to_z-of_z at
    c.div_euclid.ensures in
    let low : (s.den *ℤ c.div_euclid.result) ≤ℤ p = rw is (floor-least p s.den s.factor.low) in
    simp to_z-of_z (rw (← times) low)
