use Rattle.sfm_pair.specs.Pair.{IsMeeting}
use Rattle.sfm_c.specs.Calls.{IsDone, IsDueForRight}
use Rattle.sfm_c.proofs.Pairing.{for_left, lined}
use Rattle.sfm_c.proofs.pair.make_meet.Goals as goal

pub returns-in-Ok : goal.returns-in-Ok
returns-in-Ok c = for_left c.args.left.now c.in-Ok.numbered
    (lined c.args.left.now c.in-Ok.numbered c.in-Ok.ensures.read c.in-Ok.ensures.numbered)
    (λ l. IsDueForRight l c.args.right.now (λ r. IsDone (IsMeeting l.asked r.asked)))
    c.meet_by.result c.meet_by.ensures
