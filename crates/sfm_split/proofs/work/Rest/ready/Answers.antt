use Rattle.sfm_split.specs.Search.{AreQueued}
use Rattle.sfm_split.proofs.Queues.{queued_empty, none_missing}
use Rattle.sfm_split.proofs.work.Rest.ready.Goals as goal

pub returns-then-len-m-clause-queued : goal.returns-then-len-m-clause-queued
returns-then-len-m-clause-queued c =
    let s = c.args.self.now.search in
    let q : AreQueued s.nodes.items s.queue.items = rw c.args.self.now.empty
    (queued_empty s.nodes.items (none_missing s.nodes.items c.args.self.now.none)) in
    rw c.replace-search.ensures.value q
