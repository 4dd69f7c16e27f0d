-- what lies between the two sets
use Rattle.std.proofs.Common.{◌-◌}
use Rattle.sfm_spec.specs.Sets.{size}
use Rattle.sfm_slope.proofs.chain.+fill.Given as goal

abbrev pub decreases-fill : goal.decreases-fill
decreases-fill g l = size l.high.now.set - size l.low.now.set
