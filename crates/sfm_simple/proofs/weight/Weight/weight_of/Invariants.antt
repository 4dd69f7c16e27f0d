use Rattle.std.proofs.Common.{◌≡◌, ◌*◌, ◌^◌, drop, pos, neg_ℤ, ◌+ℤ◌, ◌≤ℤ◌}
use Rattle.sfm_spec.specs.Sets.{sum_over}
use Rattle.sfm_simple.proofs.weight.Weight.weight_of.Given as goal

abbrev pub invariant-loop-j : goal.invariant-loop-j
invariant-loop-j l = record {
  so_far : (l.sum +ℤ sum_over (drop l.j l.s) (drop l.j l.self.weights)) ≡ sum_over l.s
      l.self.weights;
  low : neg_ℤ (pos (10 ^ 18 * l.j)) ≤ℤ l.sum;
  high : l.sum ≤ℤ pos (10 ^ 18 * l.j);
}
