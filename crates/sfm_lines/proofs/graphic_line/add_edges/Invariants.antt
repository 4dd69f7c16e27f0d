use Rattle.std.proofs.Common.{◌≡◌, List, ℕ, take}
use Rattle.std.specs.List.{AllZip}
use Rattle.sfm_lines.specs.Lines.{texts_of}
use Rattle.sfm_lines.specs.Parts.{IsLabelToken}
use Rattle.sfm_lines.specs.CutParts.{with_labelled}
use Rattle.sfm_lines.specs.ReadParts.{parts_of}
use Rattle.sfm_lines.specs.declared.word.RankKind.TheVariants.{GraphicRank}
use Rattle.sfm_lines.proofs.graphic_line.add_edges.Given as goal

abbrev pub invariant-loop-token : goal.invariant-loop-token
invariant-loop-token l = record {
  entries : List (List ℕ × List (List ℕ));
  each : AllZip (IsLabelToken GraphicRank) (texts_of (take l.token-index l.tokens)) entries;
  parts : parts_of l.parts ≡ with_labelled (parts_of l.initial.parts) entries;
}
