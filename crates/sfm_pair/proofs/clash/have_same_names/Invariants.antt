use Rattle.std.proofs.Common.{◌≡◌, ℕ, ◌<◌, [], get_or}
use Rattle.sfm_pair.proofs.clash.have_same_names.Given as goal

-- the names so far are the same
abbrev pub invariant-loop-e : goal.invariant-loop-e
invariant-loop-e l = (k : ℕ) → k < l.e → get_or l.left.names k [] ≡ get_or l.right.names k []
