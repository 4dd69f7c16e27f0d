use Rattle.std.proofs.Common.{ℕ, ◌<◌, ◌≤◌, ◌^◌, get_or}
use Rattle.sfm_matroid.proofs.entries.above.Given as goal

abbrev pub invariant-loop-v : goal.invariant-loop-v
invariant-loop-v l = record {
  least : l.least ≤ l.above;
  high : l.above ≤ 2 ^ 24;
  below : (i d : ℕ) → i < l.v-index → get_or l.slots i d < l.above;
}
