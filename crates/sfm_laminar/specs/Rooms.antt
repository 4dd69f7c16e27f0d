-- What a base of the weighted rank leaves: each group at most its bound, and what of it u and v can
-- exchange.
use Rattle.std.specs.Prelude.{◌≡◌, ◌⊎◌, ◌↔◌, ℕ, ◌<◌, Bool, List, length, slice_index_or, ℤ, pos, ◌-ℤ◌, ◌*ℤ◌, ◌≤ℤ◌, Contains}
use Rattle.std.specs.Int.{int_min}
use Rattle.sfm_spec.specs.Sets.{Has}
use Rattle.sfm_spec.specs.Kinds.{Group}
use Rattle.sfm_laminar.specs.Masks.{sum_listed}
use Rattle.sfm_laminar.specs.Crossing.{group_at}

-- the most that a group gets: q·w for each member, or for as many as its cap where that is less
abbrev pub bound_of : ℤ → ℤ → Group → ℤ
bound_of q w g = (q *ℤ w) *ℤ int_min g.cap (pos (length g.members))

-- what a group lacks of that
abbrev pub slack_of : ℤ → ℤ → List ℤ → Group → ℤ
slack_of q w x g = bound_of q w g -ℤ sum_listed g.members x

-- u is a member of the group and v is none
abbrev pub Splits : Group → ℕ → ℕ → Type 0
Splits g u v = Contains g.members u × (Contains g.members v → ⊥)

-- what v has, what u lacks of q·w, and what each of the first n groups lacks that has u and not v:
-- the least of these
pub record IsLeast (q w : ℤ) (groups : List Group) (x : List ℤ) (u v n : ℕ) (a : ℤ) : Type 0 where
  pub onto : a ≤ℤ slice_index_or x v (pos 0)
  pub from : a ≤ℤ ((q *ℤ w) -ℤ slice_index_or x u (pos 0))
  pub left : (i : ℕ) → i < n → Splits (group_at groups i) u v
      → a ≤ℤ slack_of q w x (group_at groups i)
  pub reached : (a ≡ slice_index_or x v (pos 0))
      ⊎ ((a ≡ ((q *ℤ w) -ℤ slice_index_or x u (pos 0)))
      ⊎ ((i : ℕ) × (i < length groups) × Splits (group_at groups i) u v
      × (a ≡ slack_of q w x (group_at groups i))))

-- the group i has v where it lacks nothing
abbrev pub IsHeldAt : ℤ → ℤ → List Group → List ℤ → ℕ → ℕ → Type 0
IsHeldAt q w groups x i v = slack_of q w x (group_at groups i) ≡ pos 0
    → Contains (group_at groups i).members v

-- the first n groups that have u and lack nothing have v
abbrev pub IsHeld : ℤ → ℤ → List Group → List ℤ → ℕ → ℕ → ℕ → Type 0
IsHeld q w groups x u n v = (i : ℕ) → i < n → Contains (group_at groups i).members u
    → IsHeldAt q w groups x i v

-- a set keeps those of its places of which something holds
pub record IsKept (before after : List Bool) (P : ℕ → Type 0) : Type 0 where
  pub places : length after ≡ length before
  pub exact : (v : ℕ) → v < length before → Has after v ↔ (Has before v × P v)
