use Rattle.std.proofs.Common.{◌≡◌, take}
use Rattle.sfm_laminar.proofs.masks.Masks.copy.Given as goal

abbrev pub invariant-loop-set : goal.invariant-loop-set
invariant-loop-set l = l.sets.items ≡ take l.set-index l.self
