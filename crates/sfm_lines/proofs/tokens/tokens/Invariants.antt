use Rattle.std.proofs.Common.{◌≡◌, ◌++◌, length}
use Rattle.sfm_lines.specs.Lines.{texts_of, tokens_of}
use Rattle.sfm_lines.proofs.tokens.tokens.Given as goal

abbrev pub invariant-loop-token : goal.invariant-loop-token
invariant-loop-token l = tokens_of l.line ≡ texts_of l.tokens.items ++ tokens_of l.left

abbrev pub decreases-loop-token : goal.decreases-loop-token
decreases-loop-token l = length l.left
