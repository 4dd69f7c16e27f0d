use Rattle.sfm_ask.specs.Pinned.{IsAnswered}
use Rattle.sfm_c.specs.Calls.{IsDone, IsDueForPins}
use Rattle.sfm_c.proofs.Making.{for_instance}
use Rattle.sfm_c.proofs.make.make_ask.Goals as goal

pub returns-in-Ok : goal.returns-in-Ok
returns-in-Ok c = for_instance c.args.text.now c.in-Ok.instance c.in-Ok.ensures.read
    (λ asked. IsDueForPins asked c.args.pins.now
    (λ p. IsDone (IsAnswered asked.instance.names asked.meant p))) c.ask_by.result
    c.ask_by.ensures
