use Rattle.std.proofs.Common.{◌⊎◌, ◌<◌, length, pos, FitsSigned, arith, inl, inr}
use Rattle.std.proofs.lemmas.Int.{ints, to_z-of_z}
use mir.Syntax.{w128}
use Rattle.sfm_spec.specs.Families.{meanings}
use Rattle.sfm_spec.specs.Sets.{size}
use Rattle.sfm_spec.specs.Slopes.{IsSameSlope}
use Rattle.sfm_slope.proofs.Nears.{near_part}
use Rattle.sfm_slope.proofs.least.least_near.Goals.{then-is_part-via-then-is_part, then-is_part-via-else-is_part+then-below-size}
use Rattle.sfm_slope.proofs.least.least_near.Goals as goal

pub returns-then-is_part-clause-least : goal.returns-then-is_part-clause-least
returns-then-is_part-clause-least g c =
    let t = g.T.Term in
    let s = c.args.slope in
    let part = c.part_below-part in
    let small = part.ensures.small in
    let fp : FitsSigned w128 part.result = omega (arith, ints, small.low, small.high) in
    let same = simp to_z-of_z at c.is_part.ensures in
    let why : IsSameSlope part.result (pos 64) s.num s.den
    ⊎ (c.args.size < size c.in_ok-below.below.set)
    = elim c.then-is_part.branch [
      | then-is_part-via-then-is_part w ↦ inl (same w.if-is_part.true)
      | then-is_part-via-else-is_part+then-below-size w ↦ inr
          (rw (← c.in_ok-below.ensures.worth.size) w.if-below-size.true)
    ] in
    near_part (meanings t.places t.value_of c.args.terms.now) (length c.args.sizes.now)
    c.args.sizes.now
    s.num s.den part.result c.args.size c.in_ok-below.below.set s.factor.low part.ensures.least
    (simp to_z-of_z at c.in_ok-below.ensures.least) why
