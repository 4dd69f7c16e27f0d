use Rattle.sfm_due.specs.Owing.{IsWeighed}
use Rattle.sfm_c.specs.Calls.{IsDone, IsDueForSizes}
use Rattle.sfm_c.proofs.Making.{for_instance}
use Rattle.sfm_c.proofs.make.make_weigh.Goals as goal

pub returns-in-Ok : goal.returns-in-Ok
returns-in-Ok c = for_instance c.args.text.now c.in-Ok.instance c.in-Ok.ensures.read
    (λ asked. IsDueForSizes asked c.args.sizes.now (λ by. IsDone (IsWeighed asked by)))
    c.weigh_by.result c.weigh_by.ensures
