use Rattle.std.proofs.Common.{length, ap, arith}
use Rattle.sfm_assign.proofs.Telling.{listed_told}
use Rattle.sfm_assign.proofs.told.Told.tell.Goals as goal

pub invariant_of-self-2 : goal.invariant_of-self-2
invariant_of-self-2 c =
    let told = c.self.inside in
    let long = ap length c.self.view_is in
    let place = c.requires in
    rw c.in_ok-push.ensures.items
    (listed_told told.answers.items told.known.items c.args.u c.args.answer
    (omega (arith, long, place)) c.self.invariant)
