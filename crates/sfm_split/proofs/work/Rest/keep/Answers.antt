use Rattle.sfm_split.proofs.Queues.{missing_all}
use Rattle.sfm_split.proofs.work.Rest.keep.Goals as goal

pub invariant_of-self-clause-none : goal.invariant_of-self-clause-none
invariant_of-self-clause-none c = missing_all c.clear.new.self.nodes.items c.clear.ensures.none
