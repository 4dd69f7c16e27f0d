use Rattle.std.proofs.Common.{◌≡◌, ◌*◌, ◌^◌, drop, length, pos, neg_ℤ, ◌+ℤ◌, ◌≤ℤ◌}
use Rattle.sfm_spec.specs.Sets.{sum_over}
use Rattle.sfm_simple.specs.Subsets.{members}
use Rattle.sfm_simple.proofs.subset.sum_at.Given as goal

abbrev pub invariant-loop-a : goal.invariant-loop-a
invariant-loop-a l = record {
  so_far : (l.sum +ℤ sum_over (members (length (drop l.a-index l.x)) l.rest) (drop l.a-index l.x))
      ≡ sum_over (members (length l.x) l.s) l.x;
  low : neg_ℤ (pos (10 ^ 30 * l.a-index)) ≤ℤ l.sum;
  high : l.sum ≤ℤ pos (10 ^ 30 * l.a-index);
}
