use Rattle.std.proofs.Common.{◌≡◌, take}
use Rattle.sfm_lines.proofs.least_groups.copied.Given as goal

abbrev pub invariant-loop-group : goal.invariant-loop-group
invariant-loop-group l = l.groups ≡ take l.group-index l.kept
