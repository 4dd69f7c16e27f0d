-- the numbers so far, with their signs turned
use Rattle.std.proofs.Common.{◌≡◌, take}
use Rattle.sfm_flip.specs.Flipped.{negated}
use Rattle.sfm_meet.proofs.sides.turned.Given as goal

abbrev pub invariant-loop-a : goal.invariant-loop-a
invariant-loop-a l = l.numbers.items ≡ negated (take l.a-index l.x)
