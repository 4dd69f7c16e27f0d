use Rattle.std.proofs.Common.{◌≡◌, List, ℕ, take}
use Rattle.std.specs.List.{AllZip}
use Rattle.sfm_lines.specs.Lines.{text_lists_of}
use Rattle.sfm_lines.specs.CutParts.{IsGroupCut, with_groups}
use Rattle.sfm_lines.specs.ReadParts.{parts_of}
use Rattle.sfm_lines.proofs.laminar_line.add_groups.Given as goal

abbrev pub invariant-loop-piece : goal.invariant-loop-piece
invariant-loop-piece l = record {
  cut : List (List ℕ × List (List ℕ));
  each : AllZip IsGroupCut (text_lists_of (take l.piece-index l.pieces)) cut;
  parts : parts_of l.parts ≡ with_groups (parts_of l.initial.parts) cut;
}
