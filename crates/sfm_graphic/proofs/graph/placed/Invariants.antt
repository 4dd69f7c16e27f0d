-- the edges so far
use Rattle.std.proofs.Common.{◌≡◌, take}
use Rattle.sfm_graphic.specs.Ends.{edges_of}
use Rattle.sfm_graphic.specs.Numbered.{numbered}
use Rattle.sfm_graphic.proofs.graph.placed.Given as goal

abbrev pub invariant-loop-pair : goal.invariant-loop-pair
invariant-loop-pair l = edges_of l.numbers.items ≡ take l.pair-index (numbered (edges_of l.ends))
