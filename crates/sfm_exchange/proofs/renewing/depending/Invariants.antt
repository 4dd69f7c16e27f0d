-- the places so far
use Rattle.sfm_exchange.specs.Renewed.{AreDepending}
use Rattle.sfm_exchange.proofs.renewing.depending.Given as goal

abbrev pub invariant-loop-u : goal.invariant-loop-u
invariant-loop-u l = AreDepending l.places l.rows l.t l.u l.found
