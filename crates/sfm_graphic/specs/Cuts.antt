-- How many of the vertices are ends of edges of a set, and what edges may get for them.
-- Textbook: Schrijver, Combinatorial Optimization, section 50 (the forest polytope).
use Rattle.std.proofs.Common.{◌≡◌, ℕ, Bool, false, not, ◌&&◌, ◌||◌, List, [], ◌∷◌, length, nat_eq, ℤ, pos, ◌*ℤ◌, ◌≤ℤ◌}
use Rattle.sfm_spec.specs.Sets.{sum_over}
use Rattle.sfm_spec.specs.Kinds.{Edge}
use Rattle.sfm_matroid.specs.Counts.{count_below}

-- the vertex v is an end of an edge of s
abbrev pub touches : List Edge → List Bool → ℕ → Bool
touches [] s v = false
touches (edge ∷ edges) [] v = false
touches (edge ∷ edges) (b ∷ s) v = (b && (nat_eq edge.tail v || nat_eq edge.head v)) || touches
    edges s v

-- how many of m vertices other than a are ends of edges of s
abbrev pub ends_but : List Edge → ℕ → ℕ → List Bool → ℕ
ends_but edges m a s = count_below m (λ v. touches edges s v && not (nat_eq v a))

-- no set of edges gets more than c for each of its ends but a, of m vertices
abbrev pub IsWithinEnds : List Edge → ℕ → ℤ → List ℤ → ℕ → Type 0
IsWithinEnds edges m c x a = (s : List Bool) → length s ≡ length edges
    → sum_over s x ≤ℤ (c *ℤ pos (ends_but edges m a s))
