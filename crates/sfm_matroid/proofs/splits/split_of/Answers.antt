use Rattle.sfm_matroid.proofs.splits.split_of.Goals as goal

pub unreachable-requires : goal.unreachable-requires
unreachable-requires c = let end = rw c.in-Err-Shortage.field-0-is at
    c.in-Err-Shortage.ensures in end.1 c.requires
