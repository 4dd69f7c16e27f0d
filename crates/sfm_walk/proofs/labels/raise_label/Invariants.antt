-- no link leads into the levels so far
use Rattle.std.proofs.Common.{◌≡◌, ℕ, ◌<◌, ◌≤◌}
use Rattle.sfm_reach.specs.Bits.{bit_in, set_at}
use Rattle.sfm_walk.proofs.labels.raise_label.Given as goal

abbrev pub invariant-loop-j : goal.invariant-loop-j
invariant-loop-j l = record {
  same : l.levels.items ≡ l.initial.levels.items;
  from : l.k ≤ l.j;
  none : (i : ℕ) → l.k ≤ i → i < l.j → (t : ℕ) → bit_in l.links t ≡ 1
      → bit_in (set_at l.levels.items i) t ≡ 1 → ⊥;
}
