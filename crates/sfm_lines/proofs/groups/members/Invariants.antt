use Rattle.std.proofs.Common.{◌≡◌, get_or, []}
use Rattle.std.specs.List.{filter, range_with_len}
use Rattle.sfm_lines.specs.Lines.{texts_of}
use Rattle.sfm_lines.specs.RankLines.{is_among}
use Rattle.sfm_lines.proofs.groups.members.Given as goal

abbrev pub invariant-loop-e : goal.invariant-loop-e
invariant-loop-e l = l.members.items ≡ filter
    (λ e. is_among (texts_of l.names) (get_or (texts_of l.elements) e [])) (range_with_len 0 l.e)
