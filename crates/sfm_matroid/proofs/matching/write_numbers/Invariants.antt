use Rattle.std.proofs.Common.{◌≡◌, take}
use Rattle.sfm_matroid.proofs.matching.write_numbers.Given as goal

abbrev pub invariant-loop-v : goal.invariant-loop-v
invariant-loop-v l = l.numbers.items ≡ take l.v-index l.slots
