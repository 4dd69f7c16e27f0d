use Rattle.std.proofs.Common.{◌≡◌, ◌^◌, drop, pos, ◌≤ℤ◌}
use Rattle.std.specs.Int.{int_max}
use Rattle.sfm_law.specs.Values.{greatest}
use Rattle.sfm_law.proofs.values.greatest_magnitude.Given as goal

abbrev pub invariant-loop-value : goal.invariant-loop-value
invariant-loop-value l = record {
  so_far : int_max l.most (greatest (drop l.value-index l.values)) ≡ greatest l.values;
  low : pos 0 ≤ℤ l.most;
  high : l.most ≤ℤ pos (10 ^ 18);
}
