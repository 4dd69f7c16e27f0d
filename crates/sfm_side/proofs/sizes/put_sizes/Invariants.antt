use Rattle.std.proofs.Common.{length, List, ℤ, Option}
use Rattle.std.specs.List.{All}
use Rattle.sfm_lines.specs.Lines.{tokens_of}
use Rattle.sfm_side.specs.declared.passes.TokenTest.TheVariants.{PairSize, PairElement}
use Rattle.sfm_side.specs.Passes.{Passes}
use Rattle.sfm_side.specs.SizeLines.{given_of, AreKept, Puts, PutsTwice}
use Rattle.sfm_side.proofs.sizes.put_sizes.Given as goal

-- the tokens that are left, over what is kept, tell all tokens over what was
abbrev pub invariant-loop-token : goal.invariant-loop-token
invariant-loop-token l = record {
  kept : AreKept (length l.instance.names) l.kept;
  sizes : All (Passes l.instance.names PairSize) (tokens_of l.left);
  elements : All (Passes l.instance.names PairElement) (tokens_of l.left);
  puts : (after : List (Option ℤ)) → Puts l.instance.names (given_of l.kept) (tokens_of l.left)
      after → Puts l.instance.names (given_of l.initial.kept) (tokens_of l.line) after;
  twice : PutsTwice l.instance.names (given_of l.kept) (tokens_of l.left)
      → PutsTwice l.instance.names (given_of l.initial.kept) (tokens_of l.line);
}

abbrev pub decreases-loop-token : goal.decreases-loop-token
decreases-loop-token l = length l.left
