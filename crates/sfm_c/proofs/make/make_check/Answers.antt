use Rattle.sfm_due.specs.Due.{IsJudged}
use Rattle.sfm_c.proofs.Making.{for_instance}
use Rattle.sfm_c.proofs.make.make_check.Goals as goal

pub returns-in-Ok : goal.returns-in-Ok
returns-in-Ok c = for_instance c.args.text.now c.in-Ok.instance c.in-Ok.ensures.read
    (λ asked. IsJudged asked c.args.answer.now) c.judged_by_ones.result c.judged_by_ones.ensures
