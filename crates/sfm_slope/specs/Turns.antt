-- What a turn of the search finds.
use Rattle.std.specs.Prelude.{◌≡◌, ℕ, Bool, List, ℤ}
use Rattle.sfm_spec.specs.Families.{Meaning, IsLeast, IsGreatest, sized_shift}
use Rattle.sfm_slope.specs.declared.turn.Turn.{Turn}
use Rattle.sfm_slope.specs.declared.turn.Turn.TheVariants.{Next, Between}
use Rattle.sfm_slope.specs.Points.{IsInRange}
use Rattle.sfm_slope.specs.Worths.{IsWorth}
use Rattle.sfm_slope.specs.Gaps.{IsGap}

-- the breakpoint at which the lower set is the least minimiser and the higher one the greatest, or
-- a set strictly between
abbrev pub IsTurn : List Meaning → ℕ → List ℤ → List Bool → List Bool → Turn → Type 0
IsTurn terms n sizes low high (Next b) = IsLeast terms n b.slope.den (sized_shift sizes b.slope.num)
    low
    × IsGreatest terms n b.slope.den (sized_shift sizes b.slope.num) b.set × (b.set ≡ high)
    × IsInRange sizes b
IsTurn terms n sizes low high (Between mid) = IsGap terms n sizes low mid.set
    × IsGap terms n sizes mid.set high × IsWorth terms sizes mid
