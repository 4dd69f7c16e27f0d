use Rattle.std.proofs.lemmas.Bool.{both_ways}
use Rattle.sfm_matroid.proofs.splits.bring_split.Goals as goal

pub unreachable-requires : goal.unreachable-requires
unreachable-requires c = both_ways _ c.if-not-branch.true
    (c.in_ok-can_bring.ensures.told.1 c.requires.met)

pub returns : goal.returns
returns c = c.in_ok-can_bring.ensures.brought c.if-not-branch.false
