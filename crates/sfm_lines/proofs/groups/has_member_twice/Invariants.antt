use Rattle.std.proofs.Common.{take}
use Rattle.std.specs.List.{All}
use Rattle.sfm_lines.specs.Lines.{text_lists_of}
use Rattle.sfm_lines.specs.TermLines.{StandsTwice}
use Rattle.sfm_lines.proofs.groups.has_member_twice.Given as goal

abbrev pub invariant-loop-names : goal.invariant-loop-names
invariant-loop-names l = All (λ names. StandsTwice names → ⊥)
    (text_lists_of (take l.names-index l.groups))
