use Rattle.std.proofs.Common.{◌≡◌, ◌*◌, ◌^◌, drop, map, pos, ◌+ℤ◌, ◌≤ℤ◌}
use Rattle.sfm_spec.specs.Bounds.{total_of}
use Rattle.sfm_side.specs.SizeLines.{count_of}
use Rattle.sfm_side.proofs.sizes.total_size.Given as goal

-- the rest is still to be added
abbrev pub invariant-loop-size : goal.invariant-loop-size
invariant-loop-size l = record {
  so_far : (l.total +ℤ total_of (map count_of (drop l.size-index l.kept))) ≡ total_of
      (map count_of l.kept);
  low : pos 0 ≤ℤ l.total;
  high : l.total ≤ℤ pos (10 ^ 6 * l.size-index);
}
