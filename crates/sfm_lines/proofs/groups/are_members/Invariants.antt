use Rattle.std.proofs.Common.{Contains, take}
use Rattle.std.specs.List.{All}
use Rattle.sfm_lines.specs.Lines.{texts_of, text_lists_of}
use Rattle.sfm_lines.proofs.groups.are_members.Given as goal

abbrev pub invariant-loop-names : goal.invariant-loop-names
invariant-loop-names l = All (λ names. All (Contains (texts_of l.elements)) names)
    (text_lists_of (take l.names-index l.groups))
