use Rattle.std.proofs.Common.{◌≡◌, length, List, Bool}
use Rattle.std.specs.List.{All}
use Rattle.sfm_lines.specs.Lines.{tokens_of}
use Rattle.sfm_lines.specs.ReadParts.{IsKnown}
use Rattle.sfm_side.specs.PinLines.{PutsNames, PutsAgain}
use Rattle.sfm_side.proofs.pins.put_names.Given as goal

-- the names that are left, over the set as it is, tell all names over the set as it was
abbrev pub invariant-loop-name : goal.invariant-loop-name
invariant-loop-name l = record {
  places : length l.to ≡ length l.instance.names;
  known : All (IsKnown l.instance.names) (tokens_of l.left);
  puts : (after : List Bool) → PutsNames l.instance.names l.to l.other (tokens_of l.left) after
      → PutsNames l.instance.names l.initial.to l.other (tokens_of l.line) after;
  again : PutsAgain l.instance.names l.to l.other (tokens_of l.left)
      → PutsAgain l.instance.names l.initial.to l.other (tokens_of l.line);
}

abbrev pub decreases-loop-name : goal.decreases-loop-name
decreases-loop-name l = length l.left
