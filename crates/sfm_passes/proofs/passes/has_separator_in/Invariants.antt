use Rattle.std.proofs.Common.{length}
use Rattle.std.specs.List.{Any}
use Rattle.sfm_lines.specs.Lines.{tokens_of}
use Rattle.sfm_lines.specs.Parts.{IsSeparator, HaveNoSeparator}
use Rattle.sfm_passes.proofs.passes.has_separator_in.Given as goal

abbrev pub invariant-loop-token : goal.invariant-loop-token
invariant-loop-token l = record {
  some : Any IsSeparator (tokens_of l.left) → Any IsSeparator (tokens_of l.line);
  none : HaveNoSeparator (tokens_of l.left) → HaveNoSeparator (tokens_of l.line);
}

abbrev pub decreases-loop-token : goal.decreases-loop-token
decreases-loop-token l = length l.left
