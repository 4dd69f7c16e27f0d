use Rattle.std.proofs.Common.{ℕ, List, length, Option, ℤ}
use Rattle.std.specs.List.{All}
use Rattle.sfm_lines.specs.Lines.{tokens_of}
use Rattle.sfm_lines.specs.Weights.{IsUnweighed, IsWeightText}
use Rattle.sfm_weights.proofs.Entries.{AreRead}
use Rattle.sfm_weights.proofs.weights.weights_of.Given as goal

abbrev pub invariant-loop-token : goal.invariant-loop-token
invariant-loop-token l = (plain : List (List ℕ)) (entries : List (List ℕ × Option (List ℕ)))
    → IsUnweighed (tokens_of l.line) plain entries
    → All (λ entry. (value : ℤ) × IsWeightText entry.1 value) entries
    → AreRead entries (tokens_of l.left) l.weights.items

abbrev pub decreases-loop-token : goal.decreases-loop-token
decreases-loop-token l = length l.left
