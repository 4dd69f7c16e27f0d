-- How many walks lead to the bases that are given.
use Rattle.std.specs.Prelude.{◌≡◌, ℕ, ◌+◌, ◌≤◌, List, length, ℤ}
use Rattle.sfm_spec.specs.Families.{Meaning}
use Rattle.sfm_spec.specs.Walks.{IsWalkChain, few_walks}

-- some walks, one after the other, lead from the first bases to the given ones; they are few, and
-- the count has risen by their number
abbrev pub IsCounted : List Meaning → ℕ → ℤ → List ℤ → List (List ℤ) → List (List ℤ) → ℕ → ℕ
    → Type 0
IsCounted terms n q shift firsts bases before after = (t : ℕ) × (t ≤ few_walks n (length terms))
    × IsWalkChain terms q shift t firsts bases × (after ≡ before + t)
