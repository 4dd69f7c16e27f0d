use Rattle.std.proofs.Common.{◌≡◌, ◌++◌, ℕ, List, take}
use Rattle.sfm_lines.specs.Lines.{texts_of}
use Rattle.sfm_lines.specs.LabelTerms.{distinct_of}
use Rattle.sfm_lines.proofs.labels.add_names.Given as goal

abbrev pub invariant-loop-text : goal.invariant-loop-text
invariant-loop-text l = (before : List (List ℕ))
    → texts_of l.initial.names.keys ≡ distinct_of before
    → texts_of l.names.keys ≡ distinct_of (before ++ texts_of (take l.text-index l.texts))
