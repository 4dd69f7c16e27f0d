-- Why walks are few: lower bounds on distances and on least steps, kept from walk to walk, and a
-- number made of them that each walk raises and that never exceeds the number of few walks.
use Rattle.std.specs.Prelude.{◌≡◌, ◌⊎◌, ℕ, zero, suc, ◌+◌, ◌*◌, ◌<◌, ◌≤◌, List, [], ◌∷◌, length, ℤ, pos, negsuc, neg_ℤ}
use Rattle.sfm_spec.specs.Families.{Meaning, rest_at}
use Rattle.sfm_spec.specs.Walks.{Step, IsStep, IsOver, MovesAlong, IsWalkChain, last_of}
use Rattle.sfm_spec.specs.Labels.{FollowsLabels, HasFull, step_code}

-- lower bounds on distances and on least steps: d is 0 at each last place and falls by at most one
-- along each step, so that no walk from a place to a last one has fewer than d steps; l is at most
-- the code of each step that lowers d, and 0 where d is n + 1
pub record AreLowerBounds (terms : List Meaning) (n : ℕ) (q : ℤ) (bases : List (List ℤ))
    (IsLast : ℕ → Type 0) (d l : ℕ → ℕ) : Type 0 where
  pub lasts : (e : ℕ) → e < n → IsLast e → d e ≡ 0
  pub falls : (from : ℕ) (step : Step) → IsStep terms q bases from step → d from ≤ d step.to + 1
  pub least : (from : ℕ) (step : Step) → IsStep terms q bases from step → d from ≡ d step.to + 1
      → l from ≤ step_code terms step
  pub bounded : (e : ℕ) → e < n → d e ≤ n + 1
  pub codes : (e : ℕ) → e < n → l e ≤ n * length terms
  pub far : (e : ℕ) → e < n → d e ≡ n + 1 → l e ≡ 0

-- from each place of the walk its step lowers d by one, and no step from there that does so has a
-- lesser code
abbrev pub TakesLeastSteps : List Meaning → ℤ → List (List ℤ) → (ℕ → ℕ) → ℕ → List Step → Type 0
TakesLeastSteps terms q bases d from [] = Unit {0}
TakesLeastSteps terms q bases d from (step ∷ steps) =
    (d from ≡ d step.to + 1) × ((other : Step) → IsStep terms q bases from other
    → d from ≡ d other.to + 1 → step_code terms step ≤ step_code terms other)
    × TakesLeastSteps terms q bases d step.to steps

-- a move along a walk that meets the bounds at each of its places, by an amount that an end or a
-- step of it does not let grow
pub record IsMoveAtBounds (terms : List Meaning) (n : ℕ) (q : ℤ) (shift : List ℤ)
    (bases after : List (List ℤ)) (d l : ℕ → ℕ) : Type 0 where
  pub bounds : AreLowerBounds terms n q bases (IsOver terms bases shift) d l
  pub along : MovesAlong terms q shift bases after
  pub follows : FollowsLabels terms d l along.first along.steps
  pub near : d along.first ≤ n
  pub full : (along.a ≡ neg_ℤ (rest_at terms bases shift along.first))
      ⊎ ((along.a ≡ rest_at terms bases shift (last_of along.first along.steps))
      ⊎ HasFull terms q bases along.first along.steps along.a)

-- the sum of f at the first n places
abbrev pub sum_below : ℕ → (ℕ → ℕ) → ℕ
sum_below zero f = 0
sum_below (suc n) f = f 0 + sum_below n (λ e. f (suc e))

-- d and l as one number, where l is less than k: in the order of d, and at the same d in that of l
abbrev pub rank_of : ℕ → ℕ → ℕ → ℕ
rank_of k d l = d * k + l

-- 1 at zero
abbrev pub zero_flag : ℤ → ℕ
zero_flag (pos zero) = 1
zero_flag (pos (suc k)) = 0
zero_flag (negsuc k) = 0

-- what walks raise: how many places have z = 0, and the ranks of the bounds of all places
unfoldable pub potential : List Meaning → ℕ → List ℤ → List (List ℤ) → (ℕ → ℕ) → (ℕ → ℕ) → ℕ
potential terms n shift bases d l =
    sum_below n (λ e. zero_flag (rest_at terms bases shift e) + rank_of (n * length terms + 1) (d e)
    (l e))

-- the bases are moved along a walk, and for whatever lower bounds there were, there are some after
-- it of a greater potential
pub record IsProgress (terms : List Meaning) (n : ℕ) (q : ℤ) (shift : List ℤ)
    (bases after : List (List ℤ)) : Type 0 where
  pub along : MovesAlong terms q shift bases after
  pub rises : (d l : ℕ → ℕ) → AreLowerBounds terms n q bases (IsOver terms bases shift) d l
      → (d' : ℕ → ℕ) × (l' : ℕ → ℕ) × AreLowerBounds terms n q after (IsOver terms after shift) d'
      l' × (potential terms n shift bases d l < potential terms n shift after d' l')

-- t walk moves, one after the other, lead from the first bases to the bases, and there are lower
-- bounds of a potential of at least t
pub record IsCountedChain (terms : List Meaning) (n : ℕ) (q : ℤ) (shift : List ℤ)
    (firsts bases : List (List ℤ)) (t : ℕ) : Type 0 where
  pub chain : IsWalkChain terms q shift t firsts bases
  pub d : ℕ → ℕ
  pub l : ℕ → ℕ
  pub bounds : AreLowerBounds terms n q bases (IsOver terms bases shift) d l
  pub reached : t ≤ potential terms n shift bases d l
