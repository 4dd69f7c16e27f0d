use Rattle.std.proofs.Common.{ℕ, ◌<◌, get_or, pos}
use Rattle.sfm_law.proofs.values.write_each.Given as goal

abbrev pub invariant-loop-j : goal.invariant-loop-j
invariant-loop-j g l = (i : ℕ) → i < l.j → goal.F-post g l.share i (get_or l.x i (pos 0))
