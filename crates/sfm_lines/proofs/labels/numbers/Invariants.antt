use Rattle.std.proofs.Common.{◌≡◌, ◌<◌, ◌^◌, map, take}
use Rattle.std.specs.List.{All}
use Rattle.sfm_lines.specs.Lines.{texts_of}
use Rattle.sfm_lines.specs.CutParts.{place_among}
use Rattle.sfm_lines.proofs.labels.numbers.Given as goal

abbrev pub invariant-loop-label : goal.invariant-loop-label
invariant-loop-label l = record {
  numbers : l.numbers.items ≡ map (place_among (texts_of l.names.keys))
      (texts_of (take l.label-index l.labels));
  small : All (λ v. v < 2 ^ 24) l.numbers.items;
}
