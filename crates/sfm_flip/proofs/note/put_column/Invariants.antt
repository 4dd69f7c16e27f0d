-- the places so far are told
use Rattle.std.proofs.Common.{◌≡◌, ◌↔◌, ℕ, ◌<◌, length}
use Rattle.sfm_spec.specs.Sets.{Has}
use Rattle.sfm_reach.specs.Bits.{bit_in, set_at}
use Rattle.sfm_flip.proofs.note.put_column.Given as goal

abbrev pub invariant-loop-v : goal.invariant-loop-v
invariant-loop-v l = record {
  places : length l.to ≡ length l.initial.to;
  column : (i : ℕ) → i < l.v → Has l.to i ↔ (bit_in (set_at l.rows i) l.place ≡ 1);
}
