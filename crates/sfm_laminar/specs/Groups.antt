-- Groups of places with their caps, as a term keeps them, and the first two that cross.
-- Textbook: Schrijver, Combinatorial Optimization, section 39 (laminar matroids).
use Rattle.std.specs.Prelude.{◌≡◌, ℕ, ◌<◌, List, length, slice_index_or, pos, ◌≤ℤ◌}
use Rattle.std.specs.List.{All}
use Rattle.sfm_spec.specs.Bounds.{IsGiven}
use Rattle.sfm_spec.specs.Kinds.{Group}
use Rattle.sfm_laminar.specs.Crossing.{group_at, IsCrossing}

-- strictly ascending
abbrev pub IsAscending : List ℕ → Type 0
IsAscending es = (i j : ℕ) → i < j → j < length es → slice_index_or es i 0 < slice_index_or es j 0

-- a group as it is kept: its cap is not negative, and its members ascend
pub record IsGroup (g : Group) : Type 0 where
  pub low : pos 0 ≤ℤ g.cap
  pub given : IsGiven g.cap
  pub ascending : IsAscending g.members

-- each member is one of k places
abbrev pub IsBelow : ℕ → Group → Type 0
IsBelow k g = All (λ e. e < k) g.members

-- the crossing with the least second number, and of these the one with the least first
pub record IsFirstCrossing (groups : List Group) (i j : ℕ) : Type 0 where
  pub crossing : IsCrossing groups i j
  pub least_second : (a b : ℕ) → b < j → IsCrossing groups a b → ⊥
  pub least_first : (a : ℕ) → a < i → IsCrossing groups a j → ⊥

-- no two groups cross
abbrev pub NoneCross : List Group → Type 0
NoneCross groups = (i j : ℕ) → IsCrossing groups i j → ⊥

-- an earlier group has the same members as the group j
abbrev pub IsRepeated : List Group → ℕ → Type 0
IsRepeated groups j = (i : ℕ) × (i < j) × ((group_at groups i).members ≡ (group_at groups j).members)

-- what a term is made of: groups of k places of which no two cross
pub record AreGroups (k : ℕ) (groups : List Group) : Type 0 where
  pub each : All IsGroup groups
  pub below : All (IsBelow k) groups
  pub none : NoneCross groups
