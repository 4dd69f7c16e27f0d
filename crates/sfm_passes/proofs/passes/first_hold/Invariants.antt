use Rattle.std.proofs.Common.{take}
use Rattle.std.specs.List.{Any, All}
use Rattle.sfm_lines.specs.Lines.{tokens_of}
use Rattle.sfm_passes.specs.Passes.{Holds, Fails}
use Rattle.sfm_passes.proofs.passes.first_hold.Given as goal

abbrev pub invariant-loop-due : goal.invariant-loop-due
invariant-loop-due l = record {
  some : Any (Fails l.instance l.test) (take l.due (tokens_of l.left))
      → Any (Fails l.instance l.test) (take l.count (tokens_of l.line));
  all : All (Holds l.instance l.test) (take l.due (tokens_of l.left))
      → All (Holds l.instance l.test) (take l.count (tokens_of l.line));
}

abbrev pub decreases-loop-due : goal.decreases-loop-due
decreases-loop-due l = l.due
