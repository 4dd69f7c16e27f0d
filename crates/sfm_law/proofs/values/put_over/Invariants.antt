use Rattle.std.proofs.Common.{◌≡◌, ◌↔◌, ℕ, ◌<◌, length, get_or, pos}
use Rattle.sfm_spec.specs.Sets.{Has}
use Rattle.sfm_law.specs.Values.{IsOver}
use Rattle.sfm_law.proofs.values.put_over.Given as goal

abbrev pub invariant-loop-v : goal.invariant-loop-v
invariant-loop-v l = record {
  places : length l.to ≡ length l.x;
  exact : (k : ℕ) → k < l.v → Has l.to k ↔ IsOver l.bar (get_or l.x k (pos 0));
}
