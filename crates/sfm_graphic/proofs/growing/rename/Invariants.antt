use Rattle.std.proofs.Common.{◌≡◌, ℕ, ◌<◌, ◌≤◌}
use Rattle.sfm_graphic.specs.Ends.{both_renamed, labels_at}
use Rattle.sfm_graphic.proofs.growing.rename.Given as goal

abbrev pub invariant-loop-pair : goal.invariant-loop-pair
invariant-loop-pair l = record {
  done : (i : ℕ) → i < l.pair-index
      → labels_at l.labels i ≡ both_renamed l.from l.to (labels_at l.initial.labels i);
  rest : (i : ℕ) → l.pair-index ≤ i → labels_at l.labels i ≡ labels_at l.initial.labels i;
}
