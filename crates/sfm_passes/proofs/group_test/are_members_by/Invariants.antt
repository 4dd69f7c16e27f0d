use Rattle.std.proofs.Common.{◌≡◌, ◌++◌, ℕ, List, length}
use Rattle.sfm_lines.specs.Lines.{texts_of, tokens_of}
use Rattle.sfm_lines.specs.LabelTerms.{distinct_of}
use Rattle.sfm_passes.proofs.group_test.are_members_by.Given as goal

abbrev pub invariant-loop-element : goal.invariant-loop-element
invariant-loop-element l = (before : List (List ℕ))
    × (tokens_of l.elements ≡ before ++ tokens_of l.left)
    × (texts_of l.known.keys ≡ distinct_of before)

abbrev pub decreases-loop-element : goal.decreases-loop-element
decreases-loop-element l = length l.left
