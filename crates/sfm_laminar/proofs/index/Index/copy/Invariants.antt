use Rattle.std.proofs.Common.{◌≡◌, take}
use Rattle.sfm_laminar.proofs.index.Index.copy.Given as goal

abbrev pub invariant-loop-numbers : goal.invariant-loop-numbers
invariant-loop-numbers l = l.holders.items ≡ take l.numbers-index l.self
