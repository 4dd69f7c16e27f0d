use Rattle.std.proofs.Common.{◌*ℤ◌, ◌-ℤ◌, ◌∙◌, pos, get_or, ap, FitsSigned}
use Rattle.std.proofs.lemmas.Int.{to_z-of_z}
use mir.Syntax.{w128}
use Rattle.sfm_simple.proofs.Fits.{slack_fits}
use Rattle.sfm_simple.proofs.table.Table.slack.Goals as goal

pub overflow_sub-result : goal.overflow_sub-result
overflow_sub-result c =
    let fp : FitsSigned w128 c.scaled.result = record { sfits = c.scaled.type_inv } in
    let fs : FitsSigned w128 c.sum_at.result = record { sfits = c.sum_at.type_inv } in
    simp to_z-of_z (slack_fits _ _ c.scaled.ensures.1 c.sum_at.ensures.small)

pub returns : goal.returns
returns c =
    let fq : FitsSigned w128 c.args.q = c.ranges.q in
    let fp : FitsSigned w128 c.scaled.result = record { sfits = c.scaled.type_inv } in
    let fs : FitsSigned w128 c.sum_at.result = record { sfits = c.sum_at.type_inv } in
    let fd = slack_fits _ _ c.scaled.ensures.1 c.sum_at.ensures.small in
    let value = simp to_z-of_z at c.scaled.ensures.0 in
    simp to_z-of_z (ap (λ a. a -ℤ c.sum_at.result) value
    ∙ ap (λ a. (c.args.q *ℤ get_or c.args.self.now.values c.args.s (pos 0)) -ℤ a)
    c.sum_at.ensures.sum)
