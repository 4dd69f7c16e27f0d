-- the rows so far
use Rattle.sfm_exchange.specs.Renewed.{AreShared}
use Rattle.sfm_exchange.proofs.renewing.share_row.Given as goal

abbrev pub invariant-loop-u : goal.invariant-loop-u
invariant-loop-u l = AreShared l.places l.shared l.raised l.u l.initial.rows l.rows
