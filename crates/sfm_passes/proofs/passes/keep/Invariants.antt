use Rattle.std.proofs.Common.{◌≡◌, ◌≤◌, ◌++◌, length}
use Rattle.sfm_lines.specs.Lines.{texts_of}
use Rattle.sfm_passes.specs.Passes.{texts_between}
use Rattle.sfm_lines.specs.TermLines.{StandsTwice}
use Rattle.sfm_passes.proofs.passes.keep.Given as goal

abbrev pub invariant-loop-separator : goal.invariant-loop-separator
invariant-loop-separator l = record {
  cut : texts_of l.initial.kept.keys ++ texts_between l.separator l.line ≡ texts_of
      l.kept.keys ++ texts_between l.separator l.left;
  once : StandsTwice (texts_of l.kept.keys) → ⊥;
  shorter : length l.left ≤ length l.line;
}

abbrev pub decreases-loop-separator : goal.decreases-loop-separator
decreases-loop-separator l = length l.left
