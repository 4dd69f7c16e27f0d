use Rattle.sfm_laminar.specs.Rooms.{IsKept}
use Rattle.sfm_laminar.proofs.Leasts.{IsHeldBy}
use Rattle.sfm_laminar.proofs.laminar.Laminar.keep_full.Given as goal

abbrev pub invariant-loop-i : goal.invariant-loop-i
invariant-loop-i l = IsKept l.initial.to l.to
    (IsHeldBy l.at.q l.self.w l.self.groups l.at.x.now l.holders l.i-index)
