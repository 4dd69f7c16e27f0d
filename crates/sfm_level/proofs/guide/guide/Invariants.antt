use Rattle.sfm_level.specs.Levelling.{IsLevelling}
use Rattle.sfm_level.proofs.guide.guide.Given as goal

-- the graph is one at bases that are levelled
abbrev pub invariant-loop : goal.invariant-loop
invariant-loop g l =
    let t = g.T.Term in IsLevelling t l.terms l.n l.graph
