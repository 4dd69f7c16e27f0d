use Rattle.std.proofs.Common.{◌≡◌}
use Rattle.sfm_laminar.specs.Counts.{raised}
use Rattle.sfm_laminar.proofs.growing.raise.Given as goal

abbrev pub invariant-loop-i : goal.invariant-loop-i
invariant-loop-i l = l.counts ≡ raised l.initial.counts l.numbers l.i-index
