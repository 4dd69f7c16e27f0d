use Rattle.std.proofs.Common.{◌≡◌, ◌≤◌, ◌+◌, List, ℕ, ◌++◌, length}
use Rattle.sfm_lines.specs.Lines.{tokens_of}
use Rattle.sfm_lines.specs.Parts.{HaveNoSeparator}
use Rattle.sfm_passes.proofs.passes.colon_cut.Given as goal

abbrev pub invariant-loop-token : goal.invariant-loop-token
invariant-loop-token l = record {
  before : List (List ℕ);
  parts : tokens_of l.line ≡ before ++ tokens_of l.left;
  count : length before ≡ l.count;
  unmarked : HaveNoSeparator before;
  bytes : l.count + length l.left ≤ length l.line;
}

abbrev pub decreases-loop-token : goal.decreases-loop-token
decreases-loop-token l = length l.left
