use Rattle.std.proofs.Common.{◌≡◌, None, replicate, rules}
use Rattle.sfm_split.proofs.Queues.{queued_empty, none_found}
use Rattle.sfm_split.proofs.search.Search.new.Goals as goal

pub returns-clause-queued : goal.returns-clause-queued
returns-clause-queued c =
    let all : c.in_ok-vec.field-0.items ≡ replicate c.args.n None = search rules in
    rw (all, c.in_ok-with_capacity.ensures.items)
    (queued_empty (replicate c.args.n None) (λ i. none_found c.args.n i))
