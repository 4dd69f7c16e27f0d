use Rattle.std.proofs.Common.{◌≡◌, ◌++◌, List, ℕ, length, map, take}
use Rattle.std.specs.List.{All, AllZip}
use Rattle.sfm_lines.specs.Lines.{tokens_of}
use Rattle.sfm_lines.specs.Parts.{IsLabelToken}
use Rattle.sfm_lines.specs.ReadParts.{parts_of}
use Rattle.sfm_lines.specs.declared.word.RankKind.TheVariants.{TransversalRank}
use Rattle.sfm_passes.proofs.entry_line.add_entries.Given as goal

abbrev pub invariant-loop-token : goal.invariant-loop-token
invariant-loop-token l = record {
  due : All (λ token. (entry : List ℕ × List (List ℕ)) × IsLabelToken TransversalRank token entry)
      (tokens_of l.left);
  done : List (List ℕ);
  entries : List (List ℕ × List (List ℕ));
  cut : tokens_of l.line ≡ done ++ tokens_of l.left;
  each : AllZip (IsLabelToken TransversalRank) done entries;
  elements : (parts_of l.parts).elements ≡ map (λ entry. entry.0) entries;
  labels : (parts_of l.parts).labels ≡ map (λ entry. take l.count entry.1) entries;
}

abbrev pub decreases-loop-token : goal.decreases-loop-token
decreases-loop-token l = length l.left
