use Rattle.std.proofs.Common.{◌≡◌, take}
use Rattle.sfm_lines.specs.Lines.{texts_of}
use Rattle.sfm_lines.specs.LabelTerms.{distinct_of}
use Rattle.sfm_lines.specs.ReadParts.{label_lists_of, joined}
use Rattle.sfm_lines.proofs.labels.different.Given as goal

abbrev pub invariant-loop-element : goal.invariant-loop-element
invariant-loop-element l = texts_of l.names.keys ≡ distinct_of
    (joined (label_lists_of (take l.element-index l.labels)))
