-- the entries so far
use Rattle.std.proofs.Common.{◌≡◌, take}
use Rattle.sfm_matroid.proofs.entries.Entries.copy.Given as goal

abbrev pub invariant-loop-slots : goal.invariant-loop-slots
invariant-loop-slots l = l.items.items ≡ take l.slots-index l.self
