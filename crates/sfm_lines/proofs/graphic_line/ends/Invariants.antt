use Rattle.std.proofs.Common.{◌≡◌, map, take}
use Rattle.sfm_graphic.specs.Ends.{edges_of}
use Rattle.sfm_lines.specs.Lines.{texts_of}
use Rattle.sfm_lines.specs.LabelTerms.{edge_between}
use Rattle.sfm_lines.specs.CutParts.{place_among}
use Rattle.sfm_lines.specs.ReadParts.{label_lists_of}
use Rattle.sfm_lines.proofs.graphic_line.ends.Given as goal

abbrev pub invariant-loop-element : goal.invariant-loop-element
invariant-loop-element l = edges_of l.ends.items ≡ map
    (λ texts. edge_between (map (place_among (texts_of l.names.keys)) texts))
    (label_lists_of (take l.element-index l.labels))
