-- the rows so far, and those that are left
use Rattle.std.proofs.Common.{◌≡◌, ◌++◌, map, drop}
use Rattle.sfm_flip.specs.Flipped.{negated}
use Rattle.sfm_meet.proofs.sides.push_turned.Given as goal

abbrev pub invariant-loop-i : goal.invariant-loop-i
invariant-loop-i l = l.to ++ map negated (drop l.i l.rows) ≡ l.initial.to ++ map negated
    (drop l.from l.rows)
