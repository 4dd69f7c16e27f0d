use Rattle.std.proofs.Common.{◌≡◌, ◌*◌, ◌^◌, drop, pos, ◌+ℤ◌, ◌≤ℤ◌}
use Rattle.sfm_spec.specs.Bounds.{total_of}
use Rattle.sfm_assign.proofs.greatest.total_of.Given as goal

abbrev pub invariant-loop-c : goal.invariant-loop-c
invariant-loop-c l = record {
  so_far : (l.sum +ℤ total_of (drop l.c-index l.capacities)) ≡ total_of l.capacities;
  low : pos 0 ≤ℤ l.sum;
  high : l.sum ≤ℤ pos (10 ^ 24 * l.c-index);
}
