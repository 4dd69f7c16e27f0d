use Rattle.std.proofs.Common.{sym}
use Rattle.sfm_simple.specs.Subsets.{get_or-members}
use Rattle.sfm_simple.proofs.subset.has.Goals as goal

pub returns : goal.returns
returns c = λ k h. sym (get_or-members k c.args.s c.args.j h)
