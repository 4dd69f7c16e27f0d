use Rattle.std.proofs.Common.{◌^◌, get_or, pos, ◌+ℤ◌, arith, FitsSigned, to_z}
use Rattle.std.proofs.lemmas.Int.{ints, to_z-of_z}
use Rattle.std.proofs.lemmas.List.Elements.{All-get_or}
use mir.Syntax.{w128}
use Rattle.sfm_spec.specs.Bounds.{IsAtMost}
use Rattle.sfm_level.proofs.guide.mean_of.Goals as goal
use Rattle.sfm_level.proofs.guide.mean_of.Goals.{then-contains+then-not-contains, else-contains}

pub loop-e-preserved : goal.loop-e-preserved
loop-e-preserved c =
    let z = c.args.z.now in
    let k = c.loop-e.e in
    let few = c.requires.few in
    let test = c.loop-e-test.true in
    let a = get_or z k (pos 0) in
    let small : IsAtMost (10 ^ 15) a
    = All-get_or (IsAtMost (10 ^ 15)) z k (pos 0) c.loop-e-test.true c.requires.small in
    let inv = c.loop-e.invariant in
    let fa : FitsSigned w128 a = omega (arith, ints, small.low, small.high) in
    let fs : FitsSigned w128 (to_z w128 c.loop-e.sum-bits +ℤ a)
    = omega (arith, ints, inv.0, inv.1, small.low, small.high, few, test) in
    let fc : FitsSigned w128 (to_z w128 c.loop-e.count-bits +ℤ pos 1)
    = omega (arith, ints, inv.2, inv.3, few, test) in
    elim c.if-contains.branch [
      | then-contains+then-not-contains w ↦
          let sum = simp to_z-of_z at w.sum-is in
          let count = simp to_z-of_z at w.count-is in (
            omega (arith, ints, inv.0, sum, small.low),
            omega (arith, ints, inv.1, sum, small.high),
            omega (arith, ints, inv.2, count),
            omega (arith, ints, inv.3, count),
          )
      | else-contains w ↦
          let sum = w.sum-is in
          let count = w.count-is in (
            omega (arith, ints, inv.0, sum),
            omega (arith, ints, inv.1, sum),
            omega (arith, ints, inv.2, count),
            omega (arith, ints, inv.3, count),
          )
    ]
