-- the terms so far
use Rattle.std.proofs.Common.{◌≡◌, map, take}
use Rattle.sfm_sides.specs.declared.side.Side.TheVariants.{Left}
use Rattle.sfm_meet.proofs.sides.as_they_are.Given as goal

abbrev pub invariant-loop-term : goal.invariant-loop-term
invariant-loop-term l = l.sides.items ≡ map Left (take l.term-index l.terms)
