use Rattle.std.proofs.Common.{◌≡◌, map, take}
use Rattle.sfm_lines.specs.Lines.{texts_of}
use Rattle.sfm_lines.specs.CutParts.{place_among}
use Rattle.sfm_lines.specs.ReadParts.{label_lists_of}
use Rattle.sfm_passes.proofs.entry_line.entries.Given as goal

abbrev pub invariant-loop-element : goal.invariant-loop-element
invariant-loop-element l = l.entries ≡ map
    (λ texts. map (place_among (texts_of l.names.keys)) texts)
    (label_lists_of (take l.element-index l.labels))
