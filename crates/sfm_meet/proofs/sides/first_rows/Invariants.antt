-- the rows so far
use Rattle.std.proofs.Common.{◌≡◌, take}
use Rattle.sfm_meet.proofs.sides.first_rows.Given as goal

abbrev pub invariant-loop-i : goal.invariant-loop-i
invariant-loop-i l = l.firsts ≡ take l.i l.rows
