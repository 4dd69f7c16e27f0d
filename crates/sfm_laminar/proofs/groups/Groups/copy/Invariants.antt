use Rattle.std.proofs.Common.{◌≡◌, take}
use Rattle.sfm_laminar.proofs.groups.Groups.copy.Given as goal

abbrev pub invariant-loop-group : goal.invariant-loop-group
invariant-loop-group l = l.items.items ≡ take l.group-index l.self
