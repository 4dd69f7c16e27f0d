use Rattle.std.proofs.Common.{◌≡◌, ◌≢◌, ◌↔◌, ℕ, ◌<◌, length}
use Rattle.sfm_spec.specs.Sets.{Has}
use Rattle.sfm_simple.proofs.place.all_but.Given as goal

abbrev pub invariant-loop-v : goal.invariant-loop-v
invariant-loop-v l = record {
  places : length l.to ≡ length l.initial.to;
  others : (k : ℕ) → k < l.v → Has l.to k ↔ (k ≢ l.u);
}
