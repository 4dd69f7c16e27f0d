-- the list so far has the numbers of the kept members so far
use Rattle.std.proofs.Common.{◌≡◌, take}
use Rattle.sfm_laminar.specs.Cut.{cut_members}
use Rattle.sfm_laminar.proofs.restrict.kept_members.Given as goal

abbrev pub invariant-loop-e : goal.invariant-loop-e
invariant-loop-e l = l.cut.items ≡ cut_members l.keep (take l.e-index l.members)
