use Rattle.std.proofs.Common.{◌≡◌, ℕ, List, Contains, length}
use Rattle.std.specs.List.{All, Any}
use Rattle.sfm_lines.specs.Lines.{texts_of, tokens_of}
use Rattle.sfm_lines.specs.LabelTerms.{distinct_of}
use Rattle.sfm_passes.proofs.group_test.are_known_in.Given as goal

abbrev pub invariant-loop-token : goal.invariant-loop-token
invariant-loop-token l = (texts : List (List ℕ)) → texts_of l.known.keys ≡ distinct_of texts
    → (Any (λ name. Contains texts name → ⊥) (tokens_of l.left)
    → Any (λ name. Contains texts name → ⊥) (tokens_of l.line))
    × (All (Contains texts) (tokens_of l.left) → All (Contains texts) (tokens_of l.line))

abbrev pub decreases-loop-token : goal.decreases-loop-token
decreases-loop-token l = length l.left
