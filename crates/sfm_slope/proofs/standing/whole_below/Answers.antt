use Rattle.std.proofs.Common.{◌≡◌, FitsSigned, rules}
use Rattle.std.specs.Int.{int_div_euclid}
use Rattle.std.proofs.lemmas.Int.{to_z-of_z}
use mir.Syntax.{w128}
use Rattle.sfm_slope.proofs.Floors.{floor-least}
use Rattle.sfm_slope.proofs.standing.whole_below.Goals as goal

pub returns-clause-low : goal.returns-clause-low
returns-clause-low c =
    let p = c.args.p in
    let q = c.args.q in
    let fp : FitsSigned w128 p = c.ranges.p in
    let fq : FitsSigned w128 q = c.ranges.q in
    let fr : FitsSigned w128 c.div_euclid.result = search rules in
    let is : c.div_euclid.result ≡ int_div_euclid p q = simp to_z-of_z at c.div_euclid.ensures in
    simp to_z-of_z (rw is (floor-least p q c.requires.factor.low))
