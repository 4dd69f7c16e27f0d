use Rattle.std.proofs.Common.{◌≡◌, map}
use Rattle.std.specs.List.{range_with_len}
use Rattle.sfm_lines.specs.RankLines.{group_of}
use Rattle.sfm_lines.specs.LeastGroups.{least_groups}
use Rattle.sfm_lines.specs.ReadParts.{parts_of}
use Rattle.sfm_lines.proofs.groups.line_groups.Given as goal

abbrev pub invariant-loop-i : goal.invariant-loop-i
invariant-loop-i l = l.groups.items ≡ least_groups
    (map (λ i. group_of l.values (parts_of l.parts) i) (range_with_len 0 l.i))
