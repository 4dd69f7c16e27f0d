use Rattle.std.proofs.Common.{◌≡◌, ◌++◌, length, take, drop, map}
use Rattle.sfm_side.specs.SizeLines.{count_of, AreKept}
use Rattle.sfm_side.proofs.sizes.count_each.Given as goal

abbrev pub invariant-loop-e : goal.invariant-loop-e
invariant-loop-e l = record {
  so_far : l.kept ≡ map count_of (take l.e l.initial.kept) ++ drop l.e l.initial.kept;
  kept : AreKept (length l.initial.kept) l.kept;
}
