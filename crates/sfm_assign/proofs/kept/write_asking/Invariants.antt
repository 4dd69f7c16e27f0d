-- of each demand so far it is told whether it asks for something
use Rattle.std.proofs.Common.{◌≡◌, ◌↔◌, ℕ, ◌<◌, length, pos, ◌<ℤ◌}
use Rattle.sfm_spec.specs.Sets.{Has}
use Rattle.sfm_cells.specs.Splits.{amount_at}
use Rattle.sfm_assign.proofs.kept.write_asking.Given as goal

abbrev pub invariant-loop-v : goal.invariant-loop-v
invariant-loop-v l = record {
  places : length l.to ≡ length l.demands;
  asking : (v : ℕ) → v < l.v → Has l.to v ↔ (pos 0 <ℤ amount_at l.demands v);
}
