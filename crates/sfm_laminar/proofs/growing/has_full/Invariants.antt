use Rattle.std.proofs.Common.{ℕ, ◌<◌, get_or, pos, ◌≤ℤ◌}
use Rattle.sfm_laminar.specs.Crossing.{group_at}
use Rattle.sfm_laminar.proofs.growing.has_full.Given as goal

abbrev pub invariant-loop-i : goal.invariant-loop-i
invariant-loop-i l = (p : ℕ) → p < l.i-index → (group_at l.groups (get_or l.numbers p 0)).cap ≤ℤ pos
    (get_or l.counts (get_or l.numbers p 0) 0) → ⊥
