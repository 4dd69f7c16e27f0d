use Rattle.std.proofs.Common.{nat_abs}
use Rattle.sfm_spec.specs.Families.{meanings}
use Rattle.sfm_level.specs.Sums.{squares_at}
use Rattle.sfm_level.specs.Levelling.{IsLevelling}
use Rattle.sfm_level.proofs.passes.level_rows.Given as goal

-- the graph is one at bases that are levelled
abbrev pub invariant-loop-graph : goal.invariant-loop-graph
invariant-loop-graph g l =
    let t = g.T.Term in IsLevelling t l.terms l.n l.graph

-- the squares of their sum fall
abbrev pub decreases-loop-graph : goal.decreases-loop-graph
decreases-loop-graph g l =
    let t = g.T.Term in nat_abs (squares_at (meanings t.places t.value_of l.terms) l.n
    l.graph.bases)
