use Rattle.std.proofs.Common.{◌^◌, arith}
use Rattle.sfm_exchange.proofs.Still.{ready}
use Rattle.sfm_level.proofs.Kept.{entries-near}
use Rattle.sfm_level.proofs.guide.least_at.Goals as goal

pub walked_from-requires-clause-ready : goal.walked_from-requires-clause-ready
walked_from-requires-clause-ready g c =
    let h = c.in_ok-z.ensures.graph in
    ready h.claimed (entries-near h (10 ^ 30) (omega arith))
