use Rattle.std.proofs.Common.{◌≡◌, ◌+◌, length, slice_get}
use Rattle.sfm_lines.specs.Lines.{tokens_of}
use Rattle.sfm_lines.proofs.tokens.token.Given as goal

abbrev pub invariant-loop-due : goal.invariant-loop-due
invariant-loop-due l = record {
  same : slice_get (tokens_of l.left) l.due ≡ slice_get (tokens_of l.line) l.i;
  count : length (tokens_of l.left) + l.i ≡ length (tokens_of l.line) + l.due;
}

abbrev pub decreases-loop-due : goal.decreases-loop-due
decreases-loop-due l = l.due
