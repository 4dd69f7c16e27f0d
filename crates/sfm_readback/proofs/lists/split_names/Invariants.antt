-- the names so far stand before the rest, and are what any list of names that the bytes hold begins
-- with
use Rattle.sfm_readback.proofs.Names.{NamesSoFar}
use Rattle.sfm_readback.proofs.lists.split_names.Given as goal

abbrev pub invariant-loop-e : goal.invariant-loop-e
invariant-loop-e l = NamesSoFar l.instance.names l.bytes l.e l.members l.rest
