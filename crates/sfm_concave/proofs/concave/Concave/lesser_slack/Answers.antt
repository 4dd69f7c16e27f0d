use Rattle.std.proofs.Common.{◌∙◌, ap, arith, FitsSigned}
use Rattle.std.specs.Int.{int_min}
use Rattle.std.proofs.lemmas.Int.{ints, to_z-of_z}
use mir.Syntax.{w128}
use Rattle.sfm_concave.proofs.concave.Concave.lesser_slack.Goals as goal

pub returns : goal.returns
returns c s own =
    let fq : FitsSigned w128 c.args.at.now.q = omega (arith, ints, c.requires.factor) in
    let fl : FitsSigned w128 c.args.least = c.ranges.least in
    let fs : FitsSigned w128 c.slack.result = record { sfits = c.slack.type_inv } in
    let fm : FitsSigned w128 c.min.result = record { sfits = c.min.type_inv } in
    let e = simp to_z-of_z at (c.slack.ensures s own) in
    let m = simp to_z-of_z at c.min.ensures.value in
    simp to_z-of_z (m ∙ ap (λ b. int_min c.args.least b) e)
