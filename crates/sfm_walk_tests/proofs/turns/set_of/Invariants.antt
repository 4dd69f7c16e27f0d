-- the set has its places
use Rattle.std.proofs.Common.{◌≡◌, length}
use Rattle.sfm_walk_tests.proofs.turns.set_of.Given as goal

abbrev pub invariant-loop-place : goal.invariant-loop-place
invariant-loop-place l = length l.set ≡ l.n
