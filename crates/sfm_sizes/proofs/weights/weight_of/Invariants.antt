use Rattle.std.proofs.Common.{◌≡◌, drop, pos, ◌+ℤ◌, ◌≤ℤ◌}
use Rattle.sfm_spec.specs.Sets.{sum_over}
use Rattle.sfm_sizes.proofs.weights.weight_of.Given as goal

-- the rest is still to be added
abbrev pub invariant-loop-e : goal.invariant-loop-e
invariant-loop-e l = record {
  so_far : (l.weight +ℤ sum_over (drop l.e l.set) (drop l.e l.sizes)) ≡ sum_over l.set l.sizes;
  low : pos 0 ≤ℤ l.weight;
}
