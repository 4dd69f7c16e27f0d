-- the graph is whole, what is kept fits its bases, and the walks so far serve all slopes between
use Rattle.std.proofs.Common.{◌≤◌, length, pos}
use Rattle.sfm_spec.specs.Families.{meanings}
use Rattle.sfm_exchange.specs.Graph.{IsClaimed}
use Rattle.sfm_stage.specs.Kept.{IsKept}
use Rattle.sfm_stage.specs.Served.{IsServing}
use Rattle.sfm_stage.proofs.stage.run_stage.Given as goal

abbrev pub invariant-loop : goal.invariant-loop
invariant-loop g l = let t = g.T.Term in let ts = meanings t.places t.value_of l.terms in
    IsClaimed t l.terms (length l.low) (pos 1) l.graph
    × IsKept ts l.low l.high l.graph.bases l.kept
    × IsServing ts l.low l.high l.walks l.initial.graph.bases l.graph.bases
    × (l.walks ≤ l.counter)
