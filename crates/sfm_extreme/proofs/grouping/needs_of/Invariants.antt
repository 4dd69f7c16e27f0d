-- the needs among the first places so far
use Rattle.std.proofs.Common.{◌≡◌}
use Rattle.sfm_extreme.specs.Pulls.{needs_upto}
use Rattle.sfm_extreme.proofs.grouping.needs_of.Given as goal

abbrev pub invariant-loop-j : goal.invariant-loop-j
invariant-loop-j l = l.needs.items ≡ needs_upto l.rows l.firsts l.i l.j
