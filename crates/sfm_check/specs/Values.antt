-- What values of sets and the sums of min(z, 0) tell of the slopes of an answer.
use Rattle.std.specs.Prelude.{◌≡◌, ◌≢◌, ℕ, suc, ◌<◌, ◌≤◌, Bool, List, length, map, slice_index_or, ℤ, pos, ◌-ℤ◌, ◌*ℤ◌, ◌≤ℤ◌, ◌^◌}
use Rattle.sfm_spec.specs.Sets.{empty_set, size, sum_over}
use Rattle.sfm_spec.specs.Bounds.{IsGiven}
use Rattle.sfm_spec.specs.Slopes.{IsLowerSlope}
use Rattle.sfm_spec.specs.Families.{Meaning, IsAllowed, deficit, rest_at, sized_shift, sum_at}
use Rattle.sfm_cert.specs.Answer.{Answer, Break, mark_of}
use Rattle.sfm_check.specs.Truth.{IsProvedSection, section_at, sections_of}
use Rattle.sfm_check.specs.Findings.{IsFullChain, set_before}
use Rattle.sfm_check.specs.declared.worth.Worth.{Worth}

-- the set is allowed, with so many places, of those sizes together, and with that sum of all terms
pub record IsWorth (terms : List Meaning) (sizes : List ℤ) (s : List Bool) (w : Worth) : Type
    0 where
  pub allowed : IsAllowed terms s
  pub size : w.size ≡ size s
  pub weight : w.weight ≡ sum_over s sizes
  pub sum : w.sum ≡ sum_at terms s

-- its numbers are small
pub record IsSmall (w : Worth) : Type 0 where
  pub size : w.size ≤ 256
  pub weight : (pos 0 ≤ℤ w.weight) × (w.weight ≤ℤ pos (10 ^ 6))
  pub sum : IsGiven w.sum

-- q times the sum, less p for each unit of size, is the sum of min(z, 0) at the bases of the slope
abbrev pub Attains : List Meaning → ℕ → List ℤ → Break → Worth → Type 0
Attains terms n sizes b w = (b.den *ℤ w.sum -ℤ b.num *ℤ w.weight) ≡ deficit n
    (rest_at terms b.bases (sized_shift sizes b.num))

-- the set before and that of the slope, a larger one, attain what the bases of the slope bound
pub record IsStep (terms : List Meaning) (n : ℕ) (sizes : List ℤ) (before : List Bool)
    (b : Break) : Type 0 where
  pub lower : Worth
  pub higher : Worth
  pub lower_is : IsWorth terms sizes before lower
  pub higher_is : IsWorth terms sizes b.members higher
  pub lower_attains : Attains terms n sizes b lower
  pub higher_attains : Attains terms n sizes b higher
  pub larger : lower.size < higher.size

-- the slope before slope k, where there is one, is lower
abbrev pub Ascends : List Break → ℕ → Type 0
Ascends breaks k = (j : ℕ) (d : Break) → suc j ≡ k
    → IsLowerSlope (slice_index_or breaks j d).num (slice_index_or breaks j d).den
    (slice_index_or breaks k d).num (slice_index_or breaks k d).den

-- slope k stands above the one before, and its bases bound what the sets before and behind it
-- attain
pub record IsStepAt (terms : List Meaning) (n : ℕ) (sizes : List ℤ) (a : Answer) (k : ℕ) : Type
    0 where
  pub ascends : Ascends a.breaks k
  pub step : (d : Break) → IsStep terms n sizes (set_before (empty_set n) (map mark_of a.breaks) k)
      (slice_index_or a.breaks k d)

-- each slope is the next one, up to the whole set, and its bases prove
pub record AreRightSlopes (terms : List Meaning) (n : ℕ) (sizes : List ℤ) (a : Answer) : Type
    0 where
  pub chain : IsFullChain terms n sizes (map mark_of a.breaks)
  pub proved : (s : ℕ) → s ≢ 0 → s < length (sections_of a)
      → IsProvedSection terms n sizes (section_at a s)
