use Rattle.std.proofs.Common.{ℕ, ◌<◌, pos, ◌≤ℤ◌}
use Rattle.sfm_laminar.specs.Crossing.{group_at}
use Rattle.sfm_laminar.specs.Rooms.{slack_of}
use Rattle.sfm_laminar.proofs.laminar.Laminar.are_bounded.Given as goal

abbrev pub invariant-loop-i : goal.invariant-loop-i
invariant-loop-i l = (j : ℕ) → j < l.i
    → pos 0 ≤ℤ slack_of l.q l.self.w l.x (group_at l.self.groups j)
