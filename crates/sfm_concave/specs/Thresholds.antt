-- The places with more than a number, and what a set leaves to a vector of the number of its count.
use Rattle.std.specs.Prelude.{◌≡◌, ◌↔◌, ℕ, ◌-◌, ◌<◌, Bool, true, false, List, length, drop, map, slice_index_or, set, ℤ, pos, ◌-ℤ◌, ◌≤ℤ◌, ◌<ℤ◌, Option}
use Rattle.std.specs.Int.Signed.{lt_z}
use Rattle.sfm_spec.specs.Bounds.{total_of}
use Rattle.sfm_spec.specs.Sets.{Has, size, sum_over}
use Rattle.sfm_law.specs.Values.{IsOver}

-- the places with more than a number
abbrev pub above : ℤ → List ℤ → List Bool
above bar x = map (λ a. lt_z bar a) x

-- these and u
abbrev pub above_with : ℤ → List ℤ → ℕ → List Bool
above_with bar x u = set (above bar x) u true

-- these and u, without v
abbrev pub above_between : ℤ → List ℤ → ℕ → ℕ → List Bool
above_between bar x u v = set (above_with bar x u) v false

-- what a set leaves to x of the number of its count
abbrev pub slack : (ℕ → ℤ) → List ℤ → List Bool → ℤ
slack h x s = h (size s) -ℤ sum_over s x

-- a set with u and not v
pub record Separates (x : List ℤ) (u v : ℕ) (s : List Bool) : Type 0 where
  pub places : length s ≡ length x
  pub first_in : Has s u
  pub second_out : slice_index_or s v false ≡ false

-- a is the least that a set with u and not v leaves
pub record IsLeastSlack (h : ℕ → ℤ) (x : List ℤ) (u v : ℕ) (a : ℤ) : Type 0 where
  pub least : (s : List Bool) → Separates x u v s → a ≤ℤ slack h x s
  pub reached : (s : List Bool) × Separates x u v s × (a ≡ slack h x s)

-- u and the places with more than w, which has no more than u, get all of their number
pub record Blocks (h : ℕ → ℤ) (x : List ℤ) (u w : ℕ) : Type 0 where
  pub in_range : w < length x
  pub below : slice_index_or x w (pos 0) ≤ℤ slice_index_or x u (pos 0)
  pub tight : slack h x (above_with (slice_index_or x w (pos 0)) x u) ≡ pos 0

-- what all places but the i least leave, where y are the entries in ascending order
abbrev pub slack_from : (ℕ → ℤ) → List ℤ → ℕ → ℤ
slack_from h y i = h (length y - i) -ℤ total_of (drop i y)

-- no number before `own`, but for 0, is one of places without which the others leave nothing
abbrev pub NoneTight : (ℕ → ℤ) → List ℤ → ℕ → Type 0
NoneTight h y own = (j : ℕ) → 0 < j → j < own → slack_from h y j ≡ pos 0 → ⊥

-- i is the last such number
pub record IsLastTight (h : ℕ → ℤ) (y : List ℤ) (own i : ℕ) : Type 0 where
  pub some : 0 < i
  pub below : i < own
  pub tight : slack_from h y i ≡ pos 0
  pub last : (j : ℕ) → i < j → j < own → slack_from h y j ≡ pos 0 → ⊥

-- the places above each entry leave something
abbrev pub LeavesAbove : (ℕ → ℤ) → List ℤ → Type 0
LeavesAbove h x = (w : ℕ) → w < length x → pos 0 ≤ℤ slack h x (above (slice_index_or x w (pos 0)) x)

-- the bar is the greatest entry of a place that blocks u, if there is one
abbrev pub IsBar : (ℕ → ℤ) → List ℤ → ℕ → Option ℤ → Type 0
IsBar h x u bar = (a : ℤ) → IsOver bar a
    ↔ ((w : ℕ) → Blocks h x u w → slice_index_or x w (pos 0) <ℤ a)

-- a count and a sum are those of a set
pub record IsShareOf (count : ℕ) (sum : ℤ) (x : List ℤ) (s : List Bool) : Type 0 where
  pub places : length s ≡ length x
  pub counts : count ≡ size s
  pub sums : sum ≡ sum_over s x

-- those of some set
abbrev pub IsSomeShare : ℕ → ℤ → List ℤ → Type 0
IsSomeShare count sum x = (s : List Bool) × IsShareOf count sum x s
