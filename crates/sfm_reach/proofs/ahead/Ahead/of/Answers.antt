use Rattle.sfm_reach.proofs.Picking.{left_first}
use Rattle.sfm_reach.proofs.ahead.Ahead.of.Goals as goal

pub returns : goal.returns
returns c = left_first c.args.places.now
