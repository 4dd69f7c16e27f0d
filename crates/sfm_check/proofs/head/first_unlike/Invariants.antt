use Rattle.std.proofs.Common.{◌≡◌, ℕ, ◌<◌, ◌≤◌, length, map}
use Rattle.sfm_spec.specs.Blocks.{block_at}
use Rattle.sfm_extreme.specs.Blocks.{block_of}
use Rattle.sfm_check.proofs.head.first_unlike.Given as goal

-- the blocks before are the due ones
abbrev pub invariant-loop-i : goal.invariant-loop-i
invariant-loop-i l = (l.i ≤ length l.given)
    × ((j : ℕ) → j < l.i → block_at (map block_of l.given) j ≡ block_at (map block_of l.due) j)
