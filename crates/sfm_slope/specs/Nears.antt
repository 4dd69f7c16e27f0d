-- A minimiser near a slope.
use Rattle.std.specs.Prelude.{◌⊎◌, ℕ, ◌<◌, Bool, List, ℤ, pos, ◌*ℤ◌, ◌≤ℤ◌}
use Rattle.sfm_spec.specs.Sets.{size}
use Rattle.sfm_spec.specs.Families.{Meaning, IsLeast, sized_shift}

-- the least minimiser at a slope that is at most p/q, with more than so many places
pub record IsLargerBelow (terms : List Meaning) (n : ℕ) (sizes : List ℤ) (p q : ℤ) (most : ℕ)
    (s : List Bool) : Type 0 where
  pub num : ℤ
  pub den : ℤ
  pub positive : pos 1 ≤ℤ den
  pub below : (num *ℤ q) ≤ℤ (p *ℤ den)
  pub least : IsLeast terms n den (sized_shift sizes num) s
  pub larger : most < size s

-- the least minimiser at p/q, or a larger one below
abbrev pub IsLeastNear : List Meaning → ℕ → List ℤ → ℤ → ℤ → ℕ → List Bool → Type 0
IsLeastNear terms n sizes p q most s = IsLeast terms n q (sized_shift sizes p) s
    ⊎ IsLargerBelow terms n sizes p q most s
