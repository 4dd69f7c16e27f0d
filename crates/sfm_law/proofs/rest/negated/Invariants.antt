-- the numbers so far, with their signs turned
use Rattle.std.proofs.Common.{◌≡◌, map, take, neg_ℤ}
use Rattle.sfm_law.proofs.rest.negated.Given as goal

abbrev pub invariant-loop-a : goal.invariant-loop-a
invariant-loop-a l = l.z.items ≡ map neg_ℤ (take l.a-index l.numbers)
