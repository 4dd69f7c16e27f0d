use Rattle.std.proofs.Common.{◌≡◌, ℕ, ◌<◌, ◌≤◌}
use Rattle.sfm_laminar.specs.Crossing.{group_at}
use Rattle.sfm_laminar.proofs.crossing.is_repeated.Given as goal

abbrev pub invariant-loop-i : goal.invariant-loop-i
invariant-loop-i l = (j : ℕ) → l.i ≤ j → j < l.second → (group_at l.groups j).members ≡ l.members
    → ⊥
