use Rattle.std.proofs.Common.{length}
use Rattle.sfm_passes.specs.Passes.{texts_between}
use Rattle.sfm_lines.specs.TermLines.{StandsTwice}
use Rattle.sfm_passes.proofs.passes.repeats.Given as goal

abbrev pub invariant-loop-first : goal.invariant-loop-first
invariant-loop-first l = record {
  down : StandsTwice (texts_between l.separator l.line)
      → StandsTwice (texts_between l.separator l.left);
  up : StandsTwice (texts_between l.separator l.left)
      → StandsTwice (texts_between l.separator l.line);
}

abbrev pub decreases-loop-first : goal.decreases-loop-first
decreases-loop-first l = length l.left
