use Rattle.std.proofs.Common.{refl}
use Rattle.sfm_base.proofs.lists.Lists.new.Goals as goal

pub invariant_of-result : goal.invariant_of-result
invariant_of-result c = rw (c.new-2.ensures.items, c.new.ensures.items) refl

pub returns : goal.returns
returns c = rw c.new-2.ensures.items refl
