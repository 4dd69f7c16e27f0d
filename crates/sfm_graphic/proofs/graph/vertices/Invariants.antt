-- the vertices so far, with those of the other edges behind
use Rattle.std.proofs.Common.{◌≡◌, drop}
use Rattle.sfm_graphic.specs.Ends.{edges_of}
use Rattle.sfm_graphic.specs.Numbered.{vertices_after, vertices_of}
use Rattle.sfm_graphic.proofs.graph.vertices.Given as goal

abbrev pub invariant-loop-pair : goal.invariant-loop-pair
invariant-loop-pair l = vertices_after l.vertices.items (edges_of (drop l.pair-index l.ends))
    ≡ vertices_of (edges_of l.ends)
