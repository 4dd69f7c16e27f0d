-- Walks of exchanges, and what moving along one does to the bases.
-- Textbook: Fujishige, Submodular Functions and Optimization, section 4 (exchange capacities, auxiliary networks).
use Rattle.std.specs.Prelude.{◌≡◌, ◌≢◌, ℕ, zero, suc, ◌+◌, ◌*◌, ◌<◌, ◌≤◌, List, [], ◌∷◌, None, length, slice_index_or, nat_eq, ℤ, pos, neg_ℤ, ◌+ℤ◌, ◌-ℤ◌, ◌≤ℤ◌, ◌<ℤ◌, if◌then◌else◌}
use Rattle.sfm_spec.specs.Terms.{times, IsBase, exchanged}
use Rattle.sfm_spec.specs.Families.{Meaning, rest_at}

-- a step of a walk: the place at which it ends, and the term that moves
pub record Step : Type 0 where
  pub to : ℕ
  pub term : ℕ

-- what stands past the end of a list of terms
abbrev pub no_term : Meaning
no_term = record { places = []; value = λ _. None }

-- the term number i, counted from 0
abbrev pub term_at : List Meaning → ℕ → Meaning
term_at terms i = slice_index_or terms i no_term

-- the base number i, counted from 0
abbrev pub base_at : List (List ℤ) → ℕ → List ℤ
base_at bases i = slice_index_or bases i []

-- at a step a can be moved: with its beginning u raised and its end v lowered by a, its term's base stays a base
pub record CanMove (terms : List Meaning) (q : ℤ) (bases : List (List ℤ)) (from : ℕ) (step : Step) (a : ℤ) : Type 0 where
  pub in_range : step.term < length terms
  pub u : ℕ
  pub v : ℕ
  pub u_in : u < length (term_at terms step.term).places
  pub v_in : v < length (term_at terms step.term).places
  pub begins : slice_index_or (term_at terms step.term).places u 0 ≡ from
  pub ends : slice_index_or (term_at terms step.term).places v 0 ≡ step.to
  pub apart : u ≢ v
  pub base : IsBase (times q (term_at terms step.term).value) (exchanged (base_at bases step.term) u v a)

-- something can be moved
abbrev pub IsStep : List Meaning → ℤ → List (List ℤ) → ℕ → Step → Type 0
IsStep terms q bases from step = (a : ℤ) × (pos 1 ≤ℤ a) × CanMove terms q bases from step a

-- each step begins where the one before ends
abbrev pub AreSteps : List Meaning → ℤ → List (List ℤ) → ℕ → List Step → Type 0
AreSteps terms q bases from [] = Unit {0}
AreSteps terms q bases from (step ∷ steps) = IsStep terms q bases from step × AreSteps terms q bases step.to steps

-- where the walk ends
abbrev pub last_of : ℕ → List Step → ℕ
last_of from [] = from
last_of from (step ∷ steps) = last_of step.to steps

-- a list of steps, at least one, each of which begins where the one before ends
pub record IsWalk (terms : List Meaning) (q : ℤ) (bases : List (List ℤ)) (first : ℕ) (steps : List Step) : Type 0 where
  pub steps_exist : 0 < length steps
  pub steps_fit : AreSteps terms q bases first steps

-- a walk to one of the last places, and none from the same first place to any of them has fewer steps
pub record IsShortestTo (terms : List Meaning) (q : ℤ) (bases : List (List ℤ)) (IsLast : ℕ → Type 0) (first : ℕ) (steps : List Step) : Type 0 where
  pub walk : IsWalk terms q bases first steps
  pub arrives : IsLast (last_of first steps)
  pub fewest : (other : List Step) → IsWalk terms q bases first other → IsLast (last_of first other) → length steps ≤ length other

-- z > 0 at the place
abbrev pub IsOver : List Meaning → List (List ℤ) → List ℤ → ℕ → Type 0
IsOver terms bases shift e = pos 0 <ℤ rest_at terms bases shift e

-- the walk leads from z < 0 to z > 0
pub record Joins (terms : List Meaning) (q : ℤ) (shift : List ℤ) (bases : List (List ℤ)) (first : ℕ) (steps : List Step) : Type 0 where
  pub walk : IsWalk terms q bases first steps
  pub below : rest_at terms bases shift first <ℤ pos 0
  pub above : IsOver terms bases shift (last_of first steps)

-- a joining walk than which none from its first place to a place with z > 0 has fewer steps
pub record IsShortest (terms : List Meaning) (q : ℤ) (shift : List ℤ) (bases : List (List ℤ)) (first : ℕ) (steps : List Step) : Type 0 where
  pub shortest : IsShortestTo terms q bases (IsOver terms bases shift) first steps
  pub below : rest_at terms bases shift first <ℤ pos 0

-- what the steps add to the ground place e in the base of term i
abbrev pub change_at : ℕ → List Step → ℕ → ℕ → ℤ → ℤ
change_at from [] i e a = pos 0
change_at from (step ∷ steps) i e a =
    (if nat_eq step.term i then ((if nat_eq from e then a else pos 0) -ℤ (if nat_eq step.to e then a else pos 0)) else pos 0)
    +ℤ change_at step.to steps i e a

-- base i changes by plus a at the beginning and minus a at the end of each of its steps
pub record IsWalkMove (terms : List Meaning) (bases : List (List ℤ)) (first : ℕ) (steps : List Step) (a : ℤ) (after : List (List ℤ)) : Type 0 where
  pub same_count : length after ≡ length bases
  pub same_lengths : (i : ℕ) → length (base_at after i) ≡ length (base_at bases i)
  pub changed : (i j : ℕ) → j < length (base_at bases i) → slice_index_or (base_at after i) j (pos 0)
      ≡ slice_index_or (base_at bases i) j (pos 0) +ℤ change_at first steps i (slice_index_or (term_at terms i).places j 0) a

-- each step can move a
abbrev pub AllCanMove : List Meaning → ℤ → List (List ℤ) → ℕ → List Step → ℤ → Type 0
AllCanMove terms q bases from [] a = Unit {0}
AllCanMove terms q bases from (step ∷ steps) a = CanMove terms q bases from step a × AllCanMove terms q bases step.to steps a

-- the move along a joining shortest walk by an amount that each step and both ends allow
pub record MovesAlong (terms : List Meaning) (q : ℤ) (shift : List ℤ) (bases after : List (List ℤ)) : Type 0 where
  pub first : ℕ
  pub steps : List Step
  pub a : ℤ
  pub shortest : IsShortest terms q shift bases first steps
  pub some : pos 1 ≤ℤ a
  pub by_steps : AllCanMove terms q bases first steps a
  pub by_first : a ≤ℤ neg_ℤ (rest_at terms bases shift first)
  pub by_last : a ≤ℤ rest_at terms bases shift (last_of first steps)
  pub moved : IsWalkMove terms bases first steps a after

-- t such moves, one after the other, lead from the bases to the last ones
abbrev pub IsWalkChain : List Meaning → ℤ → List ℤ → ℕ → List (List ℤ) → List (List ℤ) → Type 0
IsWalkChain terms q shift zero bases last = last ≡ bases
IsWalkChain terms q shift (suc t) bases last = (mid : List (List ℤ)) × MovesAlong terms q shift bases mid × IsWalkChain terms q shift t mid last

-- the most walks that a minimisation over n elements and m terms takes: n + n (n + 1) (n m + 1)
unfoldable pub few_walks : ℕ → ℕ → ℕ
few_walks n m = n + n * (n + 1) * (n * m + 1)

-- so few walk moves, or fewer, one after the other, lead from the first bases to the bases
abbrev pub IsFewWalks : List Meaning → ℕ → ℤ → List ℤ → List (List ℤ) → List (List ℤ) → Type 0
IsFewWalks terms n q shift firsts bases = (t : ℕ) × (t ≤ few_walks n (length terms)) × IsWalkChain terms q shift t firsts bases
