use Rattle.std.proofs.Common.{◌∙◌, ap, get_or}
use Rattle.sfm_graphic.specs.Ends.{edges_of}
use Rattle.sfm_graphic.specs.Numbered.{place_of}
use Rattle.sfm_graphic.proofs.Numbering.{numbers-push}
use Rattle.sfm_graphic.proofs.graph.placed.Goals as goal

pub loop-pair-preserved : goal.loop-pair-preserved
loop-pair-preserved c =
    let pairs = c.args.ends.now in
    let i = c.loop-pair.pair-index in
    let a = c.place.ensures ∙ ap (λ vertices. place_of vertices (get_or pairs i (0, 0)).0)
    c.requires in
    let b = c.place-in-loop-pair.ensures
    ∙ ap (λ vertices. place_of vertices (get_or pairs i (0, 0)).1) c.requires in
    ap edges_of c.in_ok-push.ensures.items ∙ numbers-push pairs c.loop-pair.numbers.items i
    c.place.result c.place-in-loop-pair.result c.loop-pair-test.true c.loop-pair.invariant a b
