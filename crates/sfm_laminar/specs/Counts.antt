-- How many places of a set each group has, and the same with one place more.
use Rattle.std.specs.Prelude.{◌≡◌, ℕ, zero, suc, ◌<◌, Bool, List, length, slice_index_or, slice_set, pos, ◌≤ℤ◌}
use Rattle.sfm_spec.specs.Kinds.{Group, count_in}
use Rattle.sfm_laminar.specs.Crossing.{group_at}

-- the number at i is how many places of t the group i has
pub record AreCounts (groups : List Group) (t : List Bool) (counts : List ℕ) : Type 0 where
  pub places : length counts ≡ length groups
  pub numbers : (i : ℕ) → i < length groups
      → slice_index_or counts i 0 ≡ count_in (group_at groups i) t

-- one of the numbered groups has as many places as it may
abbrev pub HasFull : List Group → List ℕ → List ℕ → Type 0
HasFull groups numbers counts = (p : ℕ) × (p < length numbers)
    × ((group_at groups (slice_index_or numbers p 0)).cap ≤ℤ pos
    (slice_index_or counts (slice_index_or numbers p 0) 0))

-- one more for each of the first n numbers
abbrev pub raised : List ℕ → List ℕ → ℕ → List ℕ
raised counts numbers zero = counts
raised counts numbers (suc n) = slice_set (raised counts numbers n) (slice_index_or numbers n 0)
    (suc (slice_index_or (raised counts numbers n) (slice_index_or numbers n 0) 0))
