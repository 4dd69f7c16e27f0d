use Rattle.std.proofs.Common.{ap, ◌∙◌, FitsSigned}
use Rattle.std.proofs.lemmas.Int.{to_z-of_z}
use mir.Syntax.{w128}
use Rattle.sfm_exchange.specs.Scaled.{rows_times}
use Rattle.sfm_slope.proofs.Starts.{firsts_small, multiples_small}
use Rattle.sfm_slope.proofs.least.restart_first.Goals as goal

pub restart_by-requires-clause-factor : goal.restart_by-requires-clause-factor
restart_by-requires-clause-factor g c =
    let fq : FitsSigned w128 c.args.q = c.ranges.q in simp to_z-of_z c.requires.factor

pub restart_by-requires-clause-small : goal.restart_by-requires-clause-small
restart_by-requires-clause-small g c =
    let t = g.T.Term in
    let m = g.met.T.Term in
    rw c.requires.begins (firsts_small t.places t.value_of t.size_of m.submodular m.bounded _
    c.args.terms.now c.requires.first.bounded t.start_of m.starts_times m.starts_small)

pub returns-clause-graph : goal.returns-clause-graph
returns-clause-graph g c = let fq : FitsSigned w128 c.args.q = c.ranges.q in simp to_z-of_z at
    c.in_ok-restart_by.ensures.graph

pub returns-clause-small : goal.returns-clause-small
returns-clause-small g c =
    let t = g.T.Term in
    let m = g.met.T.Term in
    let fq : FitsSigned w128 c.args.q = c.ranges.q in
    let bases = simp to_z-of_z at c.in_ok-restart_by.ensures.bases in
    rw (bases ∙ ap (rows_times c.args.q) c.requires.begins)
    (multiples_small t.places t.value_of t.size_of m.submodular m.bounded _ c.args.terms.now
    c.requires.first.bounded t.start_of m.starts_times m.starts_small c.args.q
    c.requires.factor)
