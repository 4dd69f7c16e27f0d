-- the rows so far are put in, and all others stay; what is turned round goes along
use Rattle.sfm_reach.specs.Turned.{AreTurned}
use Rattle.sfm_reach.specs.Unions.{AreWidened}
use Rattle.sfm_reach.proofs.unions.widen.Given as goal

abbrev pub invariant-loop-u : goal.invariant-loop-u
invariant-loop-u l = AreWidened l.places l.rows l.grown l.u l.initial.unions.items l.unions.items
    × AreTurned l.unions.items l.back.items
