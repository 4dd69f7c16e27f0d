-- the needs so far stand before the rest, ascend to the last one, and are the first ones of any
-- needs that the bytes hold
use Rattle.std.proofs.Common.{length}
use Rattle.sfm_readback.proofs.Needs.{NeedsSoFar}
use Rattle.sfm_readback.proofs.numbers.needs_of.Given as goal

abbrev pub invariant-loop-rest : goal.invariant-loop-rest
invariant-loop-rest l = NeedsSoFar l.most l.bytes l.needs.items l.last l.rest

abbrev pub decreases-loop-rest : goal.decreases-loop-rest
decreases-loop-rest l = length l.rest
