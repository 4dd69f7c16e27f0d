-- The layers of the first levels.
use Rattle.sfm_kind.specs.Restricted.{AreLayersOf}
use Rattle.sfm_kind.proofs.layers.Layers.new.Given as goal

abbrev pub invariant-loop-j : goal.invariant-loop-j
invariant-loop-j l = AreLayersOf l.rank l.weights l.levels.items l.j l.parts.items
