use Rattle.std.proofs.Common.{◌≡◌, ℕ, ◌<◌, length, ◌≤ℤ◌}
use Rattle.sfm_simple.specs.TableLaws.{slack_of, Separates}
use Rattle.sfm_simple.proofs.table.Table.least_slack.Given as goal

abbrev pub invariant-loop-s : goal.invariant-loop-s
invariant-loop-s l = record {
  least : (n : ℕ) → n < l.s → Separates (length l.x) n l.u l.v
      → l.least ≤ℤ slack_of l.q l.self.values l.x n;
  reached : (n : ℕ) × (n < length l.self.values) × Separates (length l.x) n l.u l.v
      × (l.least ≡ slack_of l.q l.self.values l.x n);
}
