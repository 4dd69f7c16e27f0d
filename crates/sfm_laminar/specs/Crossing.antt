-- When two groups of places cross.
-- Textbook: Schrijver, Combinatorial Optimization, section 39 (laminar matroids).
use Rattle.std.specs.Prelude.{ℕ, ◌<◌, List, [], length, slice_index_or, pos, Contains}
use Rattle.sfm_spec.specs.Kinds.{Group}

-- each number of the second list is in the first
abbrev pub ListsAll : List ℕ → List ℕ → Type 0
ListsAll a b = (e : ℕ) → Contains b e → Contains a e

-- a number is in both lists
abbrev pub ListsSome : List ℕ → List ℕ → Type 0
ListsSome a b = (e : ℕ) × Contains a e × Contains b e

-- each member of h is one of g
abbrev pub Holds : Group → Group → Type 0
Holds g h = ListsAll g.members h.members

-- a place is in both, and neither holds the other
pub record AreCrossing (g h : Group) : Type 0 where
  pub shared : ListsSome g.members h.members
  pub first_beyond : Holds h g → ⊥
  pub second_beyond : Holds g h → ⊥

-- what stands past the end of a list of groups
abbrev pub no_group : Group
no_group = record { cap = pos 0; members = [] }

-- the group number i, counted from 0
abbrev pub group_at : List Group → ℕ → Group
group_at groups i = slice_index_or groups i no_group

-- the groups with the numbers i < j cross
pub record IsCrossing (groups : List Group) (i j : ℕ) : Type 0 where
  pub order : i < j
  pub in_range : j < length groups
  pub cross : AreCrossing (group_at groups i) (group_at groups j)
