use Rattle.std.proofs.Common.{◌≡◌, ◌↔◌, ℕ, ◌<◌, length, pos}
use Rattle.sfm_spec.specs.Sets.{Has}
use Rattle.sfm_simple.specs.Subsets.{members}
use Rattle.sfm_simple.specs.TableLaws.{slack_of}
use Rattle.sfm_simple.proofs.table.Table.keep_tight.Given as goal

abbrev pub invariant-loop-s : goal.invariant-loop-s
invariant-loop-s l = record {
  places : length l.to ≡ length l.initial.to;
  kept : (v : ℕ) → Has l.to v ↔ (Has l.initial.to v
      × ((n : ℕ) → n < l.s → Has (members (length l.x) n) l.u
      → slack_of l.q l.self.values l.x n ≡ pos 0 → Has (members (length l.x) n) v));
}
