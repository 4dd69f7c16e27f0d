use Rattle.std.proofs.Common.{◌≡◌, List, ℕ, map, take}
use Rattle.std.specs.List.{AllZip}
use Rattle.sfm_lines.specs.Lines.{texts_of}
use Rattle.sfm_lines.specs.Parts.{IsPairToken}
use Rattle.sfm_lines.proofs.line_parts.weight_parts.Given as goal

abbrev pub invariant-loop-token : goal.invariant-loop-token
invariant-loop-token l = record {
  pairs : List (List ℕ × List ℕ);
  each : AllZip IsPairToken (texts_of (take l.token-index l.tokens)) pairs;
  elements : texts_of l.elements.items ≡ map (λ pair. pair.0) pairs;
  numbers : texts_of l.numbers.items ≡ map (λ pair. pair.1) pairs;
}
