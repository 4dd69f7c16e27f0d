use Rattle.std.proofs.Common.{◌+ℤ◌, ◌-ℤ◌, arith, FitsSigned}
use Rattle.std.proofs.lemmas.Int.{ints, to_z-of_z}
use mir.Syntax.{w128}
use Rattle.sfm_laminar.proofs.laminar.Laminar.moved_slack.Goals as goal

pub returns : goal.returns
returns c =
    let r = c.requires in
    let fs : FitsSigned w128 c.args.slack = c.ranges.slack in
    let fa : FitsSigned w128 c.args.swap.now.a = omega (arith, ints, r.low, r.high) in
    let fl : FitsSigned w128 c.share_in.result = record { sfits = c.share_in.type_inv } in
    let fm : FitsSigned w128 c.share_in-2.result = record { sfits = c.share_in-2.type_inv } in
    let less = simp to_z-of_z at c.share_in.ensures in
    let more = simp to_z-of_z at c.share_in-2.ensures in
    let fd : FitsSigned w128 (c.args.slack -ℤ c.share_in.result) = omega (
      arith,
      ints,
      r.small.low,
      r.small.high,
      less.low,
      less.high,
      r.high,
    ) in
    let fr : FitsSigned w128 ((c.args.slack -ℤ c.share_in.result) +ℤ c.share_in-2.result) =
    omega (
      arith,
      ints,
      r.small.low,
      r.small.high,
      less.low,
      less.high,
      more.low,
      more.high,
      r.high,
    ) in
    simp to_z-of_z (omega (arith, ints, less.value, more.value))
