use Rattle.std.proofs.Common.{◌≡◌, ◌*◌, ◌^◌, drop, pos, neg_ℤ, ◌+ℤ◌, ◌≤ℤ◌}
use Rattle.sfm_spec.specs.Bounds.{total_of}
use Rattle.sfm_law.proofs.numbers.sum_of.Given as goal

-- the rest is still to be added
abbrev pub invariant-loop-a : goal.invariant-loop-a
invariant-loop-a l = record {
  so_far : (l.sum +ℤ total_of (drop l.a-index l.x)) ≡ total_of l.x;
  low : neg_ℤ (pos (10 ^ 30 * l.a-index)) ≤ℤ l.sum;
  high : l.sum ≤ℤ pos (10 ^ 30 * l.a-index);
}
