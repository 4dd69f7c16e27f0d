use Rattle.sfm_reach.proofs.Picking.{picking_shrinks}
use Rattle.sfm_stage.proofs.aims.leading_into.Goals as goal

pub loop-t-smaller : goal.loop-t-smaller
loop-t-smaller c = picking_shrinks c.loop-t.ahead c.next.new.self c.in-Some.t c.in-Some.ensures
