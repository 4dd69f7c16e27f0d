use Rattle.sfm_demo.proofs.Pieces.{edge_put, passed_on}
use Rattle.sfm_demo.proofs.words.write_edge.Goals as goal

pub returns : goal.returns
returns c = passed_on c.write.result
    (edge_put _ _ _ _ _ c.args.e c.draw-u.result c.draw-x.result c.draw-u.ensures.value
    c.draw-u.ensures.after c.draw-x.ensures.value c.draw-x.ensures.after) c.write.ensures.bytes
