-- the terms so far, behind those that were there
use Rattle.std.proofs.Common.{◌≡◌, ◌++◌, map, take}
use Rattle.sfm_sides.specs.declared.side.Side.TheVariants.{Right}
use Rattle.sfm_meet.proofs.sides.push_flipped.Given as goal

abbrev pub invariant-loop-term : goal.invariant-loop-term
invariant-loop-term l = l.sides.items ≡ l.initial.sides.items ++ map Right
    (take l.term-index l.terms)
