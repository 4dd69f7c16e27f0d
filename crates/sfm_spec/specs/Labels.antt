-- Distances to the last places, the least step of each place, and the moves along walks of least
-- steps.
use Rattle.std.specs.Prelude.{◌≡◌, ◌⊎◌, ℕ, zero, suc, ◌+◌, ◌*◌, ◌<◌, ◌≤◌, List, [], ◌∷◌, length, ℤ, pos, neg_ℤ, ◌+ℤ◌}
use Rattle.sfm_spec.specs.Families.{Meaning, rest_at}
use Rattle.sfm_spec.specs.Walks.{Step, CanMove, IsStep, IsOver, MovesAlong, last_of, few_walks}

-- d tells how many steps lead from each place to a last one, and n + 1 where none do
pub record AreDistances (terms : List Meaning) (n : ℕ) (q : ℤ) (bases : List (List ℤ))
    (IsLast : ℕ → Type 0) (d : ℕ → ℕ) : Type 0 where
  pub lasts : (e : ℕ) → e < n → IsLast e → d e ≡ 0
  pub at_last : (e : ℕ) → e < n → d e ≡ 0 → IsLast e
  pub falls : (from : ℕ) (step : Step) → IsStep terms q bases from step → d from ≤ d step.to + 1
  pub leads : (e : ℕ) → e < n → 1 ≤ d e → d e ≤ n → (step : Step) × IsStep terms q bases e step
      × (d e ≡ d step.to + 1)
  pub closed : (from : ℕ) (step : Step) → IsStep terms q bases from step → d step.to ≤ n
      → d from ≤ n
  pub bounded : (e : ℕ) → e < n → d e ≤ n + 1

-- d falls by one at each step
abbrev pub FallsAlong : (ℕ → ℕ) → ℕ → List Step → Type 0
FallsAlong d from [] = Unit {0}
FallsAlong d from (step ∷ steps) = (d from ≡ d step.to + 1) × FallsAlong d step.to steps

-- the place v and the term i, of m: in the order of the places, and at the same place in that of
-- the terms
abbrev pub code_of : ℕ → ℕ → ℕ → ℕ
code_of m v i = v * m + i

-- a step as a number: by the place that it ends at, and then by its term
abbrev pub step_code : List Meaning → Step → ℕ
step_code terms step = code_of (length terms) step.to step.term

-- d tells the distance of each place to the last ones, and l its least step among those that lower
-- d; 0 where there is none
pub record AreLabels (terms : List Meaning) (n : ℕ) (q : ℤ) (bases : List (List ℤ))
    (IsLast : ℕ → Type 0) (d l : ℕ → ℕ) : Type 0 where
  pub distances : AreDistances terms n q bases IsLast d
  pub best : (e : ℕ) → e < n → 1 ≤ d e → d e ≤ n → (step : Step) × IsStep terms q bases e step
      × (d e ≡ d step.to + 1) × (l e ≡ step_code terms step)
  pub least : (from : ℕ) (step : Step) → IsStep terms q bases from step → d from ≡ d step.to + 1
      → l from ≤ step_code terms step
  pub none : (e : ℕ) → e < n → (d e ≡ 0) ⊎ (d e ≡ n + 1) → l e ≡ 0

-- from each place the walk takes its least step
abbrev pub FollowsLabels : List Meaning → (ℕ → ℕ) → (ℕ → ℕ) → ℕ → List Step → Type 0
FollowsLabels terms d l from [] = Unit {0}
FollowsLabels terms d l from (step ∷ steps) = (d from ≡ d step.to + 1)
    × (l from ≡ step_code terms step) × FollowsLabels terms d l step.to steps

-- some step of the walk cannot move more
abbrev pub HasFull : List Meaning → ℤ → List (List ℤ) → ℕ → List Step → ℤ → Type 0
HasFull terms q bases from [] a = ⊥
HasFull terms q bases from (step ∷ steps) a = (CanMove terms q bases from step (a +ℤ pos 1) → ⊥)
    ⊎ HasFull terms q bases step.to steps a

-- a move along a walk of least steps, by an amount that an end or a step of the walk does not let
-- grow
pub record IsLeastMove (terms : List Meaning) (n : ℕ) (q : ℤ) (shift : List ℤ)
    (bases after : List (List ℤ)) (d l : ℕ → ℕ) : Type 0 where
  pub labels : AreLabels terms n q bases (IsOver terms bases shift) d l
  pub along : MovesAlong terms q shift bases after
  pub follows : FollowsLabels terms d l along.first along.steps
  pub full : (along.a ≡ neg_ℤ (rest_at terms bases shift along.first))
      ⊎ ((along.a ≡ rest_at terms bases shift (last_of along.first along.steps))
      ⊎ HasFull terms q bases along.first along.steps along.a)

-- t such moves, one after the other, lead from the bases to the last ones
abbrev pub IsLeastChain : List Meaning → ℕ → ℤ → List ℤ → ℕ → List (List ℤ) → List (List ℤ) → Type 0
IsLeastChain terms n q shift zero bases last = last ≡ bases
IsLeastChain terms n q shift (suc t) bases last =
    (mid : List (List ℤ)) × (d : ℕ → ℕ) × (l : ℕ → ℕ) × IsLeastMove terms n q shift bases mid d l
    × IsLeastChain terms n q shift t mid last

-- a step of the walk begins at the place
abbrev pub Passes : ℕ → List Step → ℕ → Type 0
Passes from [] e = ⊥
Passes from (step ∷ steps) e = (from ≡ e) ⊎ Passes step.to steps e

-- a pair of a distance and a least step is at most another: by the distance, and at the same
-- distance by the step
abbrev pub IsPairUpTo : ℕ → ℕ → ℕ → ℕ → Type 0
IsPairUpTo d l d' l' = (d < d') ⊎ ((d ≡ d') × (l ≤ l'))

-- and it is less than another
abbrev pub IsPairBelow : ℕ → ℕ → ℕ → ℕ → Type 0
IsPairBelow d l d' l' = (d < d') ⊎ ((d ≡ d') × (l < l'))

-- few walks: each place has a distance and a least step; a move along a walk of least steps, by the
-- greatest amount, lets no place's pair of both fall; it makes z zero at an end of the walk, or the
-- pair of a place on it rises; and there are never more such moves, one after the other, than the
-- number of few walks
pub record FewWalksLaws (terms : List Meaning) (n : ℕ) (q : ℤ) (shift : List ℤ)
    (bases : List (List ℤ)) : Type 0 where
  pub exist : (d : ℕ → ℕ) × (l : ℕ → ℕ) × AreLabels terms n q bases (IsOver terms bases shift) d l
  pub kept : (after : List (List ℤ)) (d l d' l' : ℕ → ℕ)
      → IsLeastMove terms n q shift bases after d l
      → AreLabels terms n q after (IsOver terms after shift) d' l'
      → (e : ℕ) → e < n → IsPairUpTo (d e) (l e) (d' e) (l' e)
  pub raised : (after : List (List ℤ)) (d l d' l' : ℕ → ℕ)
      (move : IsLeastMove terms n q shift bases after d l)
      → AreLabels terms n q after (IsOver terms after shift) d' l'
      → (rest_at terms after shift move.along.first ≡ pos 0)
      ⊎ ((rest_at terms after shift (last_of move.along.first move.along.steps) ≡ pos 0)
      ⊎ ((e : ℕ) × Passes move.along.first move.along.steps e
      × IsPairBelow (d e) (l e) (d' e) (l' e)))
  pub few : (t : ℕ) (last : List (List ℤ)) → IsLeastChain terms n q shift t bases last
      → t ≤ few_walks n (length terms)
