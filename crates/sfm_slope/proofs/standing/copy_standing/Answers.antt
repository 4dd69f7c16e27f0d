use Rattle.std.proofs.Common.{◌∙◌}
use Rattle.sfm_slope.proofs.Scaled.{rows_once}
use Rattle.sfm_slope.proofs.standing.copy_standing.Goals as goal

pub returns : goal.returns
returns g c =
    let h = c.requires.standing in
    let bases = c.in_ok-graph.ensures.bases ∙ rows_once c.args.at.now.graph.bases in
    record {
      claimed = c.in_ok-graph.ensures.graph;
      small = rw bases h.small;
      few = h.few;
      reached = rw bases h.reached;
    }
