use Rattle.std.proofs.Common.{◌-◌, ◌≤◌, ◌-ℤ◌, ◌∙◌, length, ap, arith, rules, FitsSigned}
use Rattle.std.proofs.lemmas.Int.{ints, to_z-of_z}
use mir.Syntax.{w128}
use Rattle.sfm_law.proofs.Fits.{difference_fits}
use Rattle.sfm_concave.specs.ConcaveLaws.{scaled}
use Rattle.sfm_concave.proofs.Ranks.{ranked_sized}
use Rattle.sfm_concave.proofs.concave.Concave.slack_from.Goals as goal

pub scaled-requires-clause-count : goal.scaled-requires-clause-count
scaled-requires-clause-count c =
    let r = c.requires in
    let s = c.args.self.now in
    let few : length c.args.at.now.x.now ≤ 256 = omega (arith, s.few, r.entries) in
    let sized = ranked_sized c.args.at.now.x.now c.args.ranking.sorted.now c.args.ranking.sums.now
    r.ranked few r.small in
    omega (arith, sized, s.counted, r.entries, c.share_from-rest.ensures.count)

pub returns : goal.returns
returns c =
    let h = scaled c.args.at.now.q c.args.self.now.values in
    let rest = c.share_from-rest in
    let fq : FitsSigned w128 c.args.at.now.q = omega (arith, ints, c.requires.factor) in
    let fn : FitsSigned w128 c.scaled.result = record { sfits = c.scaled.type_inv } in
    let fr : FitsSigned w128 rest.result.sum = search rules in
    let fd = difference_fits _ _ c.scaled.ensures.small rest.ensures.sum.1 in
    let value = simp to_z-of_z at c.scaled.ensures.value in
    simp to_z-of_z (ap (λ z. z -ℤ rest.result.sum) (value ∙ ap h rest.ensures.count)
    ∙ ap (λ z. h (length c.args.ranking.sorted.now - c.args.i) -ℤ z) rest.ensures.sum.0)
