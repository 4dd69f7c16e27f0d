use Rattle.sfm_graphic.specs.Ends.{labels_at}
use Rattle.sfm_graphic.proofs.Labels.{renamed_equal}
use Rattle.sfm_graphic.proofs.growing.take.Goals as goal

pub returns-else-tail-head-clause-labels : goal.returns-else-tail-head-clause-labels
returns-else-tail-head-clause-labels c =
    let labels = c.args.labels.now in renamed_equal labels (labels_at labels c.args.e).0
    (labels_at labels c.args.e).1 c.if-tail-head.false
