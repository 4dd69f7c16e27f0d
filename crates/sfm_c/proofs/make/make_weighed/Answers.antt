use Rattle.sfm_due.specs.Owing.{IsJudgedBySizes}
use Rattle.sfm_c.specs.Calls.{IsDueForSizes}
use Rattle.sfm_c.proofs.Making.{for_instance}
use Rattle.sfm_c.proofs.make.make_weighed.Goals as goal

pub returns-in-Ok : goal.returns-in-Ok
returns-in-Ok c = for_instance c.args.text.now c.in-Ok.instance c.in-Ok.ensures.read
    (λ asked. IsDueForSizes asked c.args.sizes.now
    (λ by. IsJudgedBySizes asked by c.args.answer.now)) c.check_by.result c.check_by.ensures
