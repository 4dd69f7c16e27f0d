-- What is told where demands are not split.
use Rattle.std.specs.Prelude.{List, ℕ, ℤ}
use Rattle.sfm_cells.specs.Splits.{CanBeMet, IsShort}
use Rattle.sfm_split.specs.declared.splitting.AssignEnd.{AssignEnd}
use Rattle.sfm_split.specs.declared.splitting.AssignEnd.TheVariants.{Shortage, Memory}

-- a set of demands that asks for more than its slots have, and so there is no split; of want of
-- memory nothing is told
abbrev pub IsAssignEnd : List ℤ → List (List ℕ) → List ℤ → AssignEnd → Type 0
IsAssignEnd demands lists capacities (Shortage set) = IsShort demands lists capacities set
    × (CanBeMet demands lists capacities → ⊥)
IsAssignEnd demands lists capacities Memory = Unit {0}
