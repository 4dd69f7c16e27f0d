use Rattle.std.proofs.Common.{◌≡◌, ◌*◌, ◌^◌, drop, pos, neg_ℤ, ◌+ℤ◌, ◌≤ℤ◌}
use Rattle.sfm_laminar.specs.Masks.{sum_listed}
use Rattle.sfm_laminar.proofs.number.sum_listed.Given as goal

-- the rest is still to be added
abbrev pub invariant-loop-e : goal.invariant-loop-e
invariant-loop-e l = record {
  so_far : (l.sum +ℤ sum_listed (drop l.e-index l.members) l.x) ≡ sum_listed l.members l.x;
  low : neg_ℤ (pos (10 ^ 30 * l.e-index)) ≤ℤ l.sum;
  high : l.sum ≤ℤ pos (10 ^ 30 * l.e-index);
}
