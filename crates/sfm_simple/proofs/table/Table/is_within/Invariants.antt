use Rattle.std.proofs.Common.{ℕ, ◌<◌, pos, ◌≤ℤ◌}
use Rattle.sfm_simple.specs.TableLaws.{slack_of}
use Rattle.sfm_simple.proofs.table.Table.is_within.Given as goal

abbrev pub invariant-loop-s : goal.invariant-loop-s
invariant-loop-s l = (n : ℕ) → n < l.s → pos 0 ≤ℤ slack_of l.q l.self.values l.x n
