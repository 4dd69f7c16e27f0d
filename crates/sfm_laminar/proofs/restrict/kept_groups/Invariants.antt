-- what is left of the groups so far
use Rattle.std.proofs.Common.{◌≡◌, take}
use Rattle.sfm_laminar.specs.Cut.{cut_groups}
use Rattle.sfm_laminar.proofs.restrict.kept_groups.Given as goal

abbrev pub invariant-loop-i : goal.invariant-loop-i
invariant-loop-i l = l.cut ≡ cut_groups l.keep (take l.i l.groups)
