use Rattle.std.proofs.Common.{◌≡◌, ℕ, List, length, Option, None}
use Rattle.std.specs.Prelude.{IsSome}
use Rattle.sfm_lines.specs.Lines.{tokens_of}
use Rattle.sfm_lines.specs.Weights.{IsUnweighed}
use Rattle.sfm_weights.proofs.Entries.{AreLeft}
use Rattle.sfm_weights.proofs.weights.has_weights.Given as goal

abbrev pub invariant-loop-token : goal.invariant-loop-token
invariant-loop-token l = (plain : List (List ℕ)) (entries : List (List ℕ × Option (List ℕ)))
    → IsUnweighed (tokens_of l.line) plain entries
    → AreLeft (λ entry. IsSome entry.1) (λ entry. entry.1 ≡ None) entries (tokens_of l.left)

abbrev pub decreases-loop-token : goal.decreases-loop-token
decreases-loop-token l = length l.left
