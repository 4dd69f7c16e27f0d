use Rattle.std.proofs.Common.{refl}
use Rattle.sfm_base.proofs.lists.Lists.with_room.Goals as goal

pub invariant_of-result : goal.invariant_of-result
invariant_of-result c = rw (c.in_ok-ends.ensures.items, c.in_ok-items.ensures.items) refl

pub returns : goal.returns
returns c = rw c.in_ok-ends.ensures.items refl
