use Rattle.std.proofs.Common.{ℤ, pos}
use Rattle.sfm_laminar.specs.Crossing.{group_at}
use Rattle.sfm_laminar.specs.Rooms.{slack_of}
use Rattle.sfm_laminar.proofs.Made.{AreMade}
use Rattle.sfm_laminar.proofs.laminar.Laminar.slacks_of.Given as goal

abbrev pub invariant-loop-i : goal.invariant-loop-i
invariant-loop-i l = AreMade ℤ (pos 0)
    (λ p. slack_of l.at.q l.self.w l.at.x.now (group_at l.self.groups p)) l.i l.slacks.items
