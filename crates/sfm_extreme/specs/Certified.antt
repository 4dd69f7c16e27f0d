-- What an answer on bases tells.
use Rattle.std.specs.Prelude.{◌≡◌, ℕ, List, ℤ}
use Rattle.sfm_spec.specs.Families.{Meaning, IsLeast, IsGreatest, shifted_at}
use Rattle.sfm_spec.specs.Walks.{Joins}
use Rattle.sfm_extreme.specs.declared.extremes.Certified.{Certified}
use Rattle.sfm_extreme.specs.declared.extremes.Certified.TheVariants.{Proved, NotOptimal}

-- the least and the greatest minimiser with their value, or a walk that joins
abbrev pub IsAnswer : List Meaning → ℕ → ℤ → List ℤ → List (List ℤ) → Certified → Type 0
IsAnswer terms n q shift rows (Proved r) = IsLeast terms n q shift r.least
    × IsGreatest terms n q shift r.greatest × (r.value ≡ shifted_at terms q shift r.least)
IsAnswer terms n q shift rows (NotOptimal walk) = Joins terms q shift rows walk.first walk.steps

-- the answer is that the bases prove
abbrev pub IsProved : Certified → Type 0
IsProved (Proved r) = Unit {0}
IsProved (NotOptimal walk) = ⊥
