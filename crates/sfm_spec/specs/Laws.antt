-- The facts on sums of submodular functions, as statements over the meanings of terms.
use Rattle.std.specs.Prelude.{◌≡◌, ◌↔◌, ℕ, ◌<◌, Bool, List, [], ◌∷◌, ◌++◌, length, replicate, slice_index_or, ℤ, pos, ◌+ℤ◌, ◌≤ℤ◌}
use Rattle.sfm_spec.specs.Sets.{whole_set, size, union, intersection, IsWithin}
use Rattle.sfm_spec.specs.Slopes.{IsLowest, IsLowerSlope}
use Rattle.sfm_spec.specs.Families.{Meaning, IsMinimiser, IsLeast, IsGreatest, IsBreakpoint, Prove, IsSigned, AreTight, AreBases, rest_at, deficit, sized_shift}
use Rattle.sfm_spec.specs.Walks.{Step, Joins, IsWalkMove, CanMove, last_of}

-- minimisers from bases: the bases prove exactly where no walk joins; where they prove, the minimisers are the sets
-- that have all places with z < 0 and none with z > 0, with a tight part in each term, and the union and the intersection
-- of two of them are minimisers
pub record BaseLaws (terms : List Meaning) (n : ℕ) (q : ℤ) (shift : List ℤ) (bases : List (List ℤ)) : Type 0 where
  pub exact : Prove terms n q shift bases ↔ ((first : ℕ) (steps : List Step) → Joins terms q shift bases first steps → ⊥)
  pub minimisers : Prove terms n q shift bases → (s : List Bool) → length s ≡ n
      → IsMinimiser terms n q shift s ↔ (IsSigned n (rest_at terms bases shift) s × AreTight q terms bases s)
  pub unions : Prove terms n q shift bases → (s t : List Bool) → IsMinimiser terms n q shift s → IsMinimiser terms n q shift t → IsMinimiser terms n q shift (union s t)
  pub intersections : Prove terms n q shift bases → (s t : List Bool) → IsMinimiser terms n q shift s → IsMinimiser terms n q shift t → IsMinimiser terms n q shift (intersection s t)

-- order of exchanges: along a joining shortest walk, from its last step to its first, each step can still move a after
-- the steps behind it have moved; what there is afterwards are bases, and the deficit rises by exactly a
pub record MoveLaws (terms : List Meaning) (n : ℕ) (q : ℤ) (shift : List ℤ) (before : List (List ℤ)) (first : ℕ) (steps : List Step) (a : ℤ) : Type 0 where
  pub in_order : (front back : List Step) (step : Step) (mid : List (List ℤ)) → steps ≡ front ++ step ∷ back
      → IsWalkMove terms before step.to back a mid → CanMove terms q mid (last_of first front) step a
  pub bases : (after : List (List ℤ)) → IsWalkMove terms before first steps a after → AreBases q terms after
  pub gains : (after : List (List ℤ)) → IsWalkMove terms before first steps a after
      → deficit n (rest_at terms after shift) ≡ (deficit n (rest_at terms before shift) +ℤ a)

-- slopes: the minimisers at a lower slope lie within those at a higher one
abbrev pub SlopesNest : List Meaning → ℕ → List ℤ → Type 0
SlopesNest terms n sizes = (p q p' q' : ℤ) (s t : List Bool) → pos 1 ≤ℤ q → pos 1 ≤ℤ q' → IsLowerSlope p q p' q'
    → IsMinimiser terms n q (sized_shift sizes p) s → IsMinimiser terms n q' (sized_shift sizes p') t → IsWithin s t

-- a slope with its set
pub record Mark : Type 0 where
  pub num : ℤ
  pub den : ℤ
  pub members : List Bool

-- what stands past the end of a list of marks
abbrev pub no_mark : Mark
no_mark = record { num = pos 0; den = pos 1; members = [] }

-- each element counts one
abbrev pub ones : ℕ → List ℤ
ones n = replicate n (pos 1)

-- each set is the greatest minimiser at its slope and larger than the set before, which is the least minimiser there;
-- the last set is the whole
abbrev pub IsChain : List Meaning → ℕ → List ℤ → List Bool → List Mark → Type 0
IsChain terms n sizes before [] = before ≡ whole_set n
IsChain terms n sizes before (mark ∷ marks) =
    (pos 1 ≤ℤ mark.den) × IsGreatest terms n mark.den (sized_shift sizes mark.num) mark.members × IsLeast terms n mark.den (sized_shift sizes mark.num) before
    × (size before < size mark.members) × IsChain terms n sizes mark.members marks

-- all breakpoints in lowest terms, in ascending order of their slopes
pub record AreBreakpoints (terms : List Meaning) (n : ℕ) (sizes : List ℤ) (marks : List Mark) : Type 0 where
  pub lowest : (i : ℕ) → i < length marks → IsLowest (slice_index_or marks i no_mark).num (slice_index_or marks i no_mark).den
  pub ascending : (i j : ℕ) → i < j → j < length marks
      → IsLowerSlope (slice_index_or marks i no_mark).num (slice_index_or marks i no_mark).den (slice_index_or marks j no_mark).num (slice_index_or marks j no_mark).den
  pub sound : (i : ℕ) → i < length marks
      → IsBreakpoint terms n sizes (slice_index_or marks i no_mark).num (slice_index_or marks i no_mark).den (slice_index_or marks i no_mark).members
  pub complete : (p q : ℤ) (s : List Bool) → IsLowest p q → IsBreakpoint terms n sizes p q s
      → (i : ℕ) × (i < length marks) × (slice_index_or marks i no_mark ≡ record { num = p; den = q; members = s })
