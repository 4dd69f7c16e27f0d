use Rattle.sfm_pair.specs.Sides.{IsMetJudged}
use Rattle.sfm_c.specs.Calls.{IsDueForRight}
use Rattle.sfm_c.proofs.Pairing.{for_left, lined}
use Rattle.sfm_c.proofs.pair.make_met.Goals as goal

pub returns-in-Ok : goal.returns-in-Ok
returns-in-Ok c = for_left c.args.left.now c.in-Ok.numbered
    (lined c.args.left.now c.in-Ok.numbered c.in-Ok.ensures.read c.in-Ok.ensures.numbered)
    (λ l. IsDueForRight l c.args.right.now (λ r. IsMetJudged l.asked r.asked c.args.answer.now))
    c.met_by.result c.met_by.ensures
