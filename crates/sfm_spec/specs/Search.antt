-- The search for the slopes with two minimisers, one after the other. Textbook: Fujishige,
-- Submodular Functions and Optimization, section 7 (parametric minimisation, the principal
-- partition).
use Rattle.std.specs.Prelude.{◌≡◌, ◌⊎◌, ℕ, ◌<◌, Bool, List, [], ◌∷◌, length, slice_index_or, ℤ, pos, ◌≤ℤ◌, ◌<ℤ◌, Option, Some, None}
use Rattle.sfm_spec.specs.Sets.{size, empty_set, whole_set, IsWithin}
use Rattle.sfm_spec.specs.Slopes.{IsLowest, IsLowerSlope}
use Rattle.sfm_spec.specs.Families.{Meaning, IsAllowed, IsMinimiser, IsLeast, IsGreatest, shifted_at, sized_shift}
use Rattle.sfm_spec.specs.Laws.{Mark, no_mark}

-- the set from which a search goes: the empty one before the first mark, or the greatest minimiser
-- at the mark before
abbrev pub IsFloor : List Meaning → ℕ → List ℤ → Option Mark → List Bool → Type 0
IsFloor terms n sizes None a = a ≡ empty_set n
IsFloor terms n sizes (Some mark) a = (pos 1 ≤ℤ mark.den)
    × IsGreatest terms n mark.den (sized_shift sizes mark.num) a

-- the slope is above that of the mark before
abbrev pub IsAbove : Option Mark → ℤ → ℤ → Type 0
IsAbove None p q = Unit {0}
IsAbove (Some mark) p q = IsLowerSlope mark.num mark.den p q

-- p/q is the slope at which both sets are worth as much
abbrev pub IsEven : List Meaning → List ℤ → ℤ → ℤ → List Bool → List Bool → Type 0
IsEven terms sizes p q a t = shifted_at terms q (sized_shift sizes p) t ≡ shifted_at terms q
    (sized_shift sizes p) a

-- the larger set of the search: the whole one, or a minimiser at a slope at which the first set is
-- none
pub record IsCeiling (terms : List Meaning) (n : ℕ) (sizes : List ℤ) (a t : List Bool) : Type
    0 where
  pub places : length t ≡ n
  pub allowed : IsAllowed terms t
  pub within : IsWithin a t
  pub larger : size a < size t
  pub at_slope : (t ≡ whole_set n)
      ⊎ ((p q : ℤ) × (pos 1 ≤ℤ q) × IsMinimiser terms n q (sized_shift sizes p) t
      × (shifted_at terms q (sized_shift sizes p) t <ℤ shifted_at terms q (sized_shift sizes p) a))

-- what the search ends at: a slope with the first set as its least minimiser, and with a larger one
pub record IsNext (terms : List Meaning) (n : ℕ) (sizes : List ℤ) (before : Option Mark)
    (a : List Bool) : Type 0 where
  pub num : ℤ
  pub den : ℤ
  pub members : List Bool
  pub positive : pos 1 ≤ℤ den
  pub above : IsAbove before num den
  pub least : IsLeast terms n den (sized_shift sizes num) a
  pub greatest : IsGreatest terms n den (sized_shift sizes num) members
  pub larger : size a < size members

-- a chain as far as some set
abbrev pub IsChainTo : List Meaning → ℕ → List ℤ → List Bool → List Mark → List Bool → Type 0
IsChainTo terms n sizes before [] last = before ≡ last
IsChainTo terms n sizes before (mark ∷ marks) last =
    (pos 1 ≤ℤ mark.den) × IsGreatest terms n mark.den (sized_shift sizes mark.num) mark.members
    × IsLeast terms n mark.den (sized_shift sizes mark.num) before
    × (size before < size mark.members) × IsChainTo terms n sizes mark.members marks last

-- the mark at i
abbrev pub mark_at : List Mark → ℕ → Mark
mark_at marks i = slice_index_or marks i no_mark

abbrev pub AreLowest : List Mark → Type 0
AreLowest marks = (i : ℕ) → i < length marks → IsLowest (mark_at marks i).num (mark_at marks i).den
