-- The two sets between which breakpoints are looked for.
use Rattle.std.specs.Prelude.{◌≡◌, ◌⊎◌, ℕ, ◌<◌, Bool, List, length, ℤ, pos, ◌≤ℤ◌, Option}
use Rattle.sfm_spec.specs.Sets.{size, whole_set, IsWithin}
use Rattle.sfm_spec.specs.Families.{Meaning, IsAllowed, IsLeast, sized_shift}
use Rattle.sfm_spec.specs.Laws.{Mark}
use Rattle.sfm_spec.specs.Search.{IsFloor}

-- the empty set, or the set of a breakpoint
abbrev pub IsBegun : List Meaning → ℕ → List ℤ → List Bool → Type 0
IsBegun terms n sizes a = (before : Option Mark) × IsFloor terms n sizes before a

-- t is larger than a and has it within; it is the whole set, or the least minimiser at some slope
pub record IsGap (terms : List Meaning) (n : ℕ) (sizes : List ℤ) (a t : List Bool) : Type 0 where
  pub places : length t ≡ n
  pub allowed : IsAllowed terms t
  pub within : IsWithin a t
  pub larger : size a < size t
  pub at_slope : (t ≡ whole_set n)
      ⊎ ((p q : ℤ) × (pos 1 ≤ℤ q) × IsLeast terms n q (sized_shift sizes p) t)
