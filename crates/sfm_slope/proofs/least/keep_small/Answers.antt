use Rattle.std.proofs.Common.{◌^◌}
use Rattle.sfm_exchange.proofs.ClaimedGraphs.{shaped}
use Rattle.sfm_slope.proofs.Scaled.{small_from_abs}
use Rattle.sfm_slope.proofs.least.keep_small.Goals as goal

pub restart_first-requires-clause-graph : goal.restart_first-requires-clause-graph
restart_first-requires-clause-graph g c = shaped c.requires.graph

pub returns-then-are_within-clause-small : goal.returns-then-are_within-clause-small
returns-then-are_within-clause-small g c =
    small_from_abs (10 ^ 25) c.args.graph.now.bases (c.are_within.ensures.0 c.if-are_within.true)
