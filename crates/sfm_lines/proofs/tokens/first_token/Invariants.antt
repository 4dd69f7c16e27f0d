use Rattle.std.proofs.Common.{◌≡◌, ◌≤◌, length}
use Rattle.std.specs.List.{position_or_len}
use Rattle.sfm_lines.specs.Lines.{tokens_of}
use Rattle.sfm_lines.specs.Tokens.{is_blank}
use Rattle.sfm_lines.proofs.FirstCuts.{IsSkipped}
use Rattle.sfm_lines.proofs.tokens.first_token.Given as goal

abbrev pub invariant-loop-end : goal.invariant-loop-end
invariant-loop-end l = record {
  tokens : tokens_of l.line ≡ tokens_of l.left;
  first : l.end ≡ position_or_len is_blank l.left;
  skipped : IsSkipped l.line l.left;
  shorter : length l.left ≤ length l.line;
}

abbrev pub decreases-loop-end : goal.decreases-loop-end
decreases-loop-end l = length l.left
