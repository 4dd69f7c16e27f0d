use Rattle.std.proofs.Common.{FitsSigned}
use Rattle.std.proofs.lemmas.Int.{to_z-of_z}
use mir.Syntax.{w128}
use Rattle.sfm_exchange.proofs.graph.graph_at.Goals as goal

pub blank_graph-requires : goal.blank_graph-requires
blank_graph-requires g c = c.requires.bounded.placed

pub restart-requires-clause-bounded : goal.restart-requires-clause-bounded
restart-requires-clause-bounded g c = c.requires.bounded

pub restart-requires-clause-factor : goal.restart-requires-clause-factor
restart-requires-clause-factor g c =
    let fq : FitsSigned w128 c.args.q = c.ranges.q in simp to_z-of_z c.requires.factor

pub restart-requires-clause-graph : goal.restart-requires-clause-graph
restart-requires-clause-graph g c = c.in_ok-graph.ensures

pub restart-requires-clause-bases : goal.restart-requires-clause-bases
restart-requires-clause-bases g c = let fq : FitsSigned w128 c.args.q = c.ranges.q in simp to_z-of_z
    c.requires.bases

pub restart-requires-clause-small : goal.restart-requires-clause-small
restart-requires-clause-small g c = c.requires.small

pub returns-clause-graph : goal.returns-clause-graph
returns-clause-graph g c = let fq : FitsSigned w128 c.args.q = c.ranges.q in simp to_z-of_z at
    c.in_ok-restart.ensures.graph

pub returns-clause-bases : goal.returns-clause-bases
returns-clause-bases g c = c.in_ok-restart.ensures.bases
