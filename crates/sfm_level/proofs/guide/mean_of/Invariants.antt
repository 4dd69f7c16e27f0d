use Rattle.std.proofs.Common.{◌*◌, ◌^◌, pos, neg_ℤ, ◌≤ℤ◌}
use Rattle.sfm_level.proofs.guide.mean_of.Given as goal

-- the sum is of few numbers, each within 10^15
abbrev pub invariant-loop-e : goal.invariant-loop-e
invariant-loop-e l =
    (neg_ℤ (pos (10 ^ 15 * l.e)) ≤ℤ l.sum) × (l.sum ≤ℤ pos (10 ^ 15 * l.e)) × (pos 0 ≤ℤ l.count)
    × (l.count ≤ℤ pos l.e)
