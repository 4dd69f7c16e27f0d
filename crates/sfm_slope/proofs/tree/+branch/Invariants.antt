-- how many breakpoints there are
use Rattle.std.proofs.Common.{length}
use Rattle.sfm_slope.proofs.tree.+branch.Given as goal

abbrev pub decreases-branch : goal.decreases-branch
decreases-branch g l = length l.found.now
