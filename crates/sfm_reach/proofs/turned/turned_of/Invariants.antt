-- the rows so far are turned round
use Rattle.sfm_reach.proofs.Turning.{AreTurnedTo}
use Rattle.sfm_reach.proofs.turned.turned_of.Given as goal

abbrev pub invariant-loop-e : goal.invariant-loop-e
invariant-loop-e l = AreTurnedTo l.e l.rows l.back.items
