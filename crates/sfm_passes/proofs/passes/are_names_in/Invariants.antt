use Rattle.std.proofs.Common.{length}
use Rattle.std.specs.List.{Any, All}
use Rattle.sfm_spec.specs.Names.{IsName}
use Rattle.sfm_lines.specs.Lines.{tokens_of}
use Rattle.sfm_passes.proofs.passes.are_names_in.Given as goal

abbrev pub invariant-loop-token : goal.invariant-loop-token
invariant-loop-token l = record {
  some : Any (λ text. IsName text → ⊥) (tokens_of l.left)
      → Any (λ text. IsName text → ⊥) (tokens_of l.line);
  all : All IsName (tokens_of l.left) → All IsName (tokens_of l.line);
}

abbrev pub decreases-loop-token : goal.decreases-loop-token
decreases-loop-token l = length l.left
