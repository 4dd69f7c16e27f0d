use Rattle.std.proofs.Common.{length}
use Rattle.std.specs.List.{Any, All}
use Rattle.sfm_lines.specs.Lines.{tokens_of}
use Rattle.sfm_side.specs.Passes.{Passes}
use Rattle.sfm_side.proofs.passes.all_pass.Given as goal

abbrev pub invariant-loop-token : goal.invariant-loop-token
invariant-loop-token l = record {
  some : Any (λ token. Passes l.instance.names l.test token → ⊥) (tokens_of l.left)
      → Any (λ token. Passes l.instance.names l.test token → ⊥) (tokens_of l.line);
  all : All (Passes l.instance.names l.test) (tokens_of l.left)
      → All (Passes l.instance.names l.test) (tokens_of l.line);
}

abbrev pub decreases-loop-token : goal.decreases-loop-token
decreases-loop-token l = length l.left
