use Rattle.sfm_laminar.proofs.Leasts.{IsLeastBy}
use Rattle.sfm_laminar.proofs.laminar.Laminar.least_left.Given as goal

abbrev pub invariant-loop-i : goal.invariant-loop-i
invariant-loop-i l = IsLeastBy l.at.q l.self.w l.self.groups l.at.x.now l.holders l.u l.v l.i-index
    l.least
