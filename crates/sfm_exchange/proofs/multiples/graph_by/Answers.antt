use Rattle.std.proofs.Common.{FitsSigned}
use Rattle.std.proofs.lemmas.Int.{to_z-of_z}
use mir.Syntax.{w128}
use Rattle.sfm_exchange.proofs.multiples.graph_by.Goals as goal

pub blank_graph-requires : goal.blank_graph-requires
blank_graph-requires g c = c.requires.other.bounded.placed

pub restart_by-requires-clause-factor : goal.restart_by-requires-clause-factor
restart_by-requires-clause-factor g c =
    let fq : FitsSigned w128 c.args.q = c.ranges.q in simp to_z-of_z c.requires.factor

pub restart_by-requires-clause-graph : goal.restart_by-requires-clause-graph
restart_by-requires-clause-graph g c =
    rw c.in_ok-graph.ensures.are_spots.count c.in_ok-graph.ensures

pub restart_by-requires-clause-other : goal.restart_by-requires-clause-other
restart_by-requires-clause-other g c = rw c.in_ok-graph.ensures.are_spots.count c.requires.other

pub restart_by-requires-clause-small : goal.restart_by-requires-clause-small
restart_by-requires-clause-small g c = c.requires.small

pub returns-clause-graph : goal.returns-clause-graph
returns-clause-graph g c =
    let fq : FitsSigned w128 c.args.q = c.ranges.q in
    let h = rw c.in_ok-graph.ensures.are_spots.count at c.in_ok-restart_by.ensures.graph in
    simp to_z-of_z at h

pub returns-clause-bases : goal.returns-clause-bases
returns-clause-bases g c = let fq : FitsSigned w128 c.args.q = c.ranges.q in simp to_z-of_z at
    c.in_ok-restart_by.ensures.bases
