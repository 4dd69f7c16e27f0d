use Rattle.std.proofs.Common.{FitsSigned}
use Rattle.std.proofs.lemmas.Int.{to_z-of_z}
use mir.Syntax.{w128}
use Rattle.sfm_matroid.proofs.pair.SplitPair.times.Goals as goal

pub times-requires-clause-amounts : goal.times-requires-clause-amounts
times-requires-clause-amounts c = let fm : FitsSigned w128 c.args.m = c.ranges.m in simp to_z-of_z
    c.requires.amounts

pub times-requires-clause-bounded : goal.times-requires-clause-bounded
times-requires-clause-bounded c = let fm : FitsSigned w128 c.args.m = c.ranges.m in simp to_z-of_z
    c.requires.bounded

pub returns-clause-kept : goal.returns-clause-kept
returns-clause-kept c = let fm : FitsSigned w128 c.args.m = c.ranges.m in simp to_z-of_z at
    c.in_ok-kept.ensures
