-- the rows so far
use Rattle.sfm_exchange.specs.Renewed.{AreJoined}
use Rattle.sfm_exchange.proofs.renewing.join_rows.Given as goal

abbrev pub invariant-loop-u : goal.invariant-loop-u
invariant-loop-u l = AreJoined l.places l.changed l.more l.to l.u l.initial.rows l.rows
