-- The line of the answer that was judged.
use Rattle.sfm_due.proofs.Demos.{demoed}
use Rattle.sfm_due.proofs.demo.line_of.Goals as goal

pub returns : goal.returns
returns c = demoed c.args.seed c.in_ok-line_for.field-0.items c.args.instance.now
    c.in_ok-solved.solved c.in_ok-solved.ensures c.in_ok-line_for.ensures
