use Rattle.std.proofs.Common.{refl}
use Rattle.sfm_assign.proofs.spread.Spread.take_in.Goals as goal

pub join-requires-clause-same : goal.join-requires-clause-same
join-requires-clause-same c = c.requires.sized c.in-Full.set c.in-Full.is

pub returns-in-Room-clause-found : goal.returns-in-Room-clause-found
returns-in-Room-clause-found c = rw c.in-Room.is (refl, refl)

pub returns-in_ok-joined-in-Full-clause-found : goal.returns-in_ok-joined-in-Full-clause-found
returns-in_ok-joined-in-Full-clause-found c = rw c.in-Full.is c.in_ok-joined-in-Full.ensures.found
