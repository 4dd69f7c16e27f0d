use Rattle.std.proofs.Common.{length}
use Rattle.std.specs.List.{Any, All}
use Rattle.sfm_lines.specs.Lines.{tokens_of}
use Rattle.sfm_passes.specs.Passes.{Holds, Fails}
use Rattle.sfm_passes.proofs.passes.all_hold.Given as goal

abbrev pub invariant-loop-token : goal.invariant-loop-token
invariant-loop-token l = record {
  some : Any (Fails l.instance l.test) (tokens_of l.left)
      → Any (Fails l.instance l.test) (tokens_of l.line);
  all : All (Holds l.instance l.test) (tokens_of l.left)
      → All (Holds l.instance l.test) (tokens_of l.line);
}

abbrev pub decreases-loop-token : goal.decreases-loop-token
decreases-loop-token l = length l.left
