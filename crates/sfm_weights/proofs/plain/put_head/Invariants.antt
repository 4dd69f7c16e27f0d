use Rattle.std.proofs.Common.{◌≡◌, ◌≢◌, ℕ, List, ◌++◌, length, codes}
use Rattle.std.specs.List.{All}
use Rattle.sfm_lines.specs.Lines.{tokens_of}
use Rattle.sfm_weights.proofs.plain.put_head.Given as goal

abbrev pub invariant-loop-token : goal.invariant-loop-token
invariant-loop-token l = record {
  head : List (List ℕ);
  parts : tokens_of l.line ≡ head ++ tokens_of l.left;
  no_colon : All (λ token. token ≢ codes ":") head;
  copied : tokens_of l.plain.items ≡ tokens_of l.initial.plain.items ++ head;
}

abbrev pub decreases-loop-token : goal.decreases-loop-token
decreases-loop-token l = length l.left
