-- the tails so far are passed, and may hold more
use Rattle.std.proofs.Common.{ℕ, ◌<◌}
use Rattle.sfm_graphic.specs.Ends.{edges_of}
use Rattle.sfm_graphic.specs.Cuts.{IsWithinEnds}
use Rattle.sfm_graphic.specs.Notes.{AreFreed, IsOverEnds}
use Rattle.sfm_graphic.specs.Numbered.{IsTail}
use Rattle.sfm_graphic.proofs.testing.passes_each.Given as goal

abbrev pub invariant-loop-a : goal.invariant-loop-a
invariant-loop-a l = record {
  over : IsOverEnds (edges_of l.trial.graph.now.ends) l.trial.graph.now.vertices l.kept.demand;
  passed : (b : ℕ) → b < l.a → IsTail (edges_of l.trial.graph.now.ends) b
      → IsWithinEnds (edges_of l.trial.graph.now.ends) l.trial.graph.now.vertices l.trial.most
      l.trial.x.now b;
  held : AreFreed (edges_of l.trial.graph.now.ends) l.trial.graph.now.vertices l.trial.most
      l.trial.x.now l.held.items;
}
