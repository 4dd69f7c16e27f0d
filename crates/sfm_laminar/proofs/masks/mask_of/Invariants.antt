use Rattle.std.proofs.Common.{◌≡◌, ◌↔◌, ℕ, ◌<◌, length}
use Rattle.std.specs.List.{Contains}
use Rattle.sfm_spec.specs.Sets.{Has}
use Rattle.sfm_laminar.proofs.masks.mask_of.Given as goal

abbrev pub invariant-loop-v : goal.invariant-loop-v
invariant-loop-v l = record {
  places : length l.s ≡ l.k;
  exact : (e : ℕ) → e < l.v → Has l.s e ↔ Contains l.members e;
}
