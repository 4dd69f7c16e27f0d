use Rattle.sfm_stage.proofs.Aiming.{aiming_more}
use Rattle.sfm_stage.proofs.aims.write_aims.Goals as goal

pub loop-level-preserved : goal.loop-level-preserved
loop-level-preserved c = rw c.in_ok-push.ensures.items
    (aiming_more c.args.over.now c.args.levels.now c.loop-level.aims.items c.loop-level.aim
    c.meet_with.new.self c.leading_into-aim.result c.loop-level.level-index
    c.loop-level.invariant c.loop-level-test.true c.meet_with.ensures)
