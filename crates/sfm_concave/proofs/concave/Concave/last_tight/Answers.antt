use Rattle.std.proofs.Common.{◌≡◌, ◌-◌, sym, ap, ◌∙◌, arith, ⊎_elim}
use Rattle.std.proofs.lemmas.Bool.{both_ways, cases_eq}
use Rattle.sfm_concave.specs.ConcaveLaws.{scaled}
use Rattle.sfm_concave.specs.Thresholds.{slack_from}
use Rattle.sfm_concave.proofs.concave.Concave.last_tight.Goals as goal

pub loop-i-preserved : goal.loop-i-preserved
loop-i-preserved c =
    let h = scaled c.args.at.now.q c.args.self.now.values in
    let y = c.args.ranking.sorted.now in
    let i = c.loop-i.i in
    let inv = c.loop-i.invariant in
    let tight = c.is_tight.ensures in
    λ j le lt t. ⊎_elim
    (λ (same : j ≡ i - 1). both_ways c.is_tight.result c.if-is_tight.false
    (tight.1 (ap (λ z. slack_from h y z) (sym same) ∙ t)))
    (λ ne. inv j (omega (arith, le, ne)) lt t)
    (cases_eq j (i - 1))
