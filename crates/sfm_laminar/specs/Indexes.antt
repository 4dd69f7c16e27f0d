-- For each place the groups that have it, and for each group the set of its members.
use Rattle.std.specs.Prelude.{◌≡◌, ◌↔◌, ℕ, Bool, zero, suc, ◌<◌, List, [], ◌∷◌, ◌++◌, length, slice_index_or, nat_eq, if◌then◌else◌, Contains}
use Rattle.std.specs.List.{list_any}
use Rattle.sfm_spec.specs.Kinds.{Group}
use Rattle.sfm_laminar.specs.Groups.{IsAscending}
use Rattle.sfm_laminar.specs.Crossing.{group_at}
use Rattle.sfm_laminar.specs.Masks.{mask}

-- the numbers of those of the first n groups that have the place e, in ascending order
abbrev pub holders : List Group → ℕ → ℕ → List ℕ
holders groups e zero = []
holders groups e (suc n) = if list_any (nat_eq e) (group_at groups n).members then holders groups e
    n ++ n ∷ [] else holders groups e n

-- the same for each of k places, of all groups
pub record IsIndex (k : ℕ) (groups : List Group) (index : List (List ℕ)) : Type 0 where
  pub places : length index ≡ k
  pub numbers : (e : ℕ) → e < k → slice_index_or index e [] ≡ holders groups e (length groups)

-- the numbers of the groups that have the place e: all of them, in ascending order
pub record AreHoldersOf (groups : List Group) (e : ℕ) (es : List ℕ) : Type 0 where
  pub below : (p : ℕ) → p < length es → slice_index_or es p 0 < length groups
  pub exact : (i : ℕ) → Contains es i
      ↔ ((i < length groups) × Contains (group_at groups i).members e)
  pub ascending : IsAscending es

-- the members of each group, as a set of k places
pub record AreMasks (k : ℕ) (groups : List Group) (masks : List (List Bool)) : Type 0 where
  pub places : length masks ≡ length groups
  pub sets : (i : ℕ) → i < length groups
      → slice_index_or masks i [] ≡ mask k (group_at groups i).members
