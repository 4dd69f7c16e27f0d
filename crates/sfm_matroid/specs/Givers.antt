-- The places that can give something to another at a base.
use Rattle.std.specs.Prelude.{◌≢◌, ◌↔◌, ℕ, ◌<◌, Bool, List, length, slice_index_or, ℤ, pos, ◌≤ℤ◌, ◌<ℤ◌}
use Rattle.sfm_spec.specs.Sets.{Has}
use Rattle.sfm_spec.specs.Terms.{exchanged}
use Rattle.sfm_assign.specs.Splits.{CanBeMet, Demands}

-- a place other than u that has something, while u has less than c
abbrev pub IsGiver : List ℤ → ℤ → ℕ → ℕ → Type 0
IsGiver x c u v = (v ≢ u) × (slice_index_or x u (pos 0) <ℤ c)
    × (pos 1 ≤ℤ slice_index_or x v (pos 0))

-- the places other than u that have something and can lend to u in a split, if u has less than c
abbrev pub IsRowIn : Demands → ℤ → ℕ → List Bool → Type 0
IsRowIn d c u to = (v : ℕ) → v < length d.demands
    → Has to v ↔ (IsGiver d.demands c u v
    × CanBeMet (exchanged d.demands u v (pos 1)) d.lists d.capacities)
