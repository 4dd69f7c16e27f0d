use Rattle.std.proofs.Common.{FitsSigned}
use Rattle.std.proofs.lemmas.Int.{to_z-of_z}
use mir.Syntax.{w128}
use Rattle.sfm_concave.specs.Thresholds.{above}
use Rattle.sfm_concave.proofs.concave.Concave.slack_above.Goals as goal

pub returns : goal.returns
returns c =
    let fq : FitsSigned w128 c.args.q = c.ranges.q in
    let fb : FitsSigned w128 c.args.bar = c.ranges.bar in
    let own = simp to_z-of_z at c.share_above.ensures in
    let fs : FitsSigned w128 c.slack.result = record { sfits = c.slack.type_inv } in
    let e = simp to_z-of_z at (c.slack.ensures (above c.args.bar c.args.x.now) own) in
    simp to_z-of_z e
