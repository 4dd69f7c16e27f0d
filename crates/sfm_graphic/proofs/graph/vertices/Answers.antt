use Rattle.std.proofs.Common.{◌∙◌, ◌+◌, ap, drop, get_or, sym}
use Rattle.sfm_graphic.specs.Ends.{edges_of}
use Rattle.sfm_graphic.specs.Numbered.{vertices_after, with_vertex}
use Rattle.sfm_graphic.proofs.Numbering.{vertices-step}
use Rattle.sfm_graphic.proofs.graph.vertices.Goals as goal

pub loop-pair-preserved : goal.loop-pair-preserved
loop-pair-preserved c =
    let pairs = c.args.ends.now in
    let i = c.loop-pair.pair-index in
    let before = c.loop-pair.vertices.items in
    let both = c.in_ok-put-2.ensures
    ∙ ap (λ vertices. with_vertex vertices (get_or pairs i (0, 0)).1) c.in_ok-put.ensures in
    ap (λ vertices. vertices_after vertices (edges_of (drop (i + 1) pairs))) both
    ∙ (sym (vertices-step before pairs i c.loop-pair-test.true) ∙ c.loop-pair.invariant)
