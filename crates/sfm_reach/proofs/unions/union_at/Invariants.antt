-- the union of the rows so far
use Rattle.sfm_reach.specs.Unions.{IsUnion}
use Rattle.sfm_reach.proofs.unions.union_at.Given as goal

abbrev pub invariant-loop-spot : goal.invariant-loop-spot
invariant-loop-spot l = IsUnion l.rows l.spots l.spot-index l.union
