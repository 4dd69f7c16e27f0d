use Rattle.std.proofs.Common.{take}
use Rattle.sfm_lines.specs.TermLines.{StandsTwice}
use Rattle.sfm_lines.proofs.term_line.has_place_twice.Given as goal

abbrev pub invariant-loop-i : goal.invariant-loop-i
invariant-loop-i l = StandsTwice (take l.i l.places) → ⊥
