use Rattle.std.proofs.Common.{take}
use Rattle.std.specs.List.{All}
use Rattle.sfm_spec.specs.Names.{IsName}
use Rattle.sfm_lines.specs.ReadParts.{label_lists_of}
use Rattle.sfm_lines.proofs.labels.are_labels.Given as goal

abbrev pub invariant-loop-element : goal.invariant-loop-element
invariant-loop-element l = All (λ texts. All IsName texts)
    (label_lists_of (take l.element-index l.labels))
