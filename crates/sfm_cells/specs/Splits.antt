-- Demands that are split over slots, each demand over the slots of its own list, and no slot above
-- its capacity. Textbook: Schrijver, Combinatorial Optimization, section 21 (transversals and
-- transportation) and section 22 (Hall's condition).
use Rattle.std.specs.Prelude.{◌≡◌, ℕ, ◌<◌, ◌≤◌, ◌^◌, Bool, true, List, [], ◌∷◌, length, slice_index_or, slice_set, nat_eq, ℤ, pos, ◌+ℤ◌, ◌≤ℤ◌, ◌<ℤ◌, if◌then◌else◌}
use Rattle.std.specs.List.{All}
use Rattle.sfm_spec.specs.Sets.{empty_set, union, sum_over}
use Rattle.sfm_spec.specs.Bounds.{total_of}

-- the sum of those amounts whose number is k, each amount being numbered
abbrev pub sum_at : ℕ → List ℕ → List ℤ → ℤ
sum_at k [] y = pos 0
sum_at k (j ∷ js) [] = pos 0
sum_at k (j ∷ js) (a ∷ y) = (if nat_eq j k then a else pos 0) +ℤ sum_at k js y

-- what all demands together put on a slot
abbrev pub load : List (List ℕ) → List (List ℤ) → ℕ → ℤ
load [] rows s = pos 0
load (slots ∷ lists) [] s = pos 0
load (slots ∷ lists) (row ∷ rows) s = sum_at s slots row +ℤ load lists rows s

abbrev pub amount_at : List ℤ → ℕ → ℤ
amount_at x i = slice_index_or x i (pos 0)

abbrev pub list_at : List (List ℕ) → ℕ → List ℕ
list_at lists i = slice_index_or lists i []

abbrev pub row_at : List (List ℤ) → ℕ → List ℤ
row_at rows i = slice_index_or rows i []

-- each demand has an amount, not negative, for each slot of its list; its amounts add up to it; no
-- slot has more than its capacity
pub record IsAssignment (demands : List ℤ) (lists : List (List ℕ)) (capacities : List ℤ)
    (rows : List (List ℤ)) : Type 0 where
  pub row_each : length rows ≡ length lists
  pub cells : (i : ℕ) → i < length lists → length (row_at rows i) ≡ length (list_at lists i)
  pub amounts : (i j : ℕ) → pos 0 ≤ℤ amount_at (row_at rows i) j
  pub met : (i : ℕ) → i < length lists → total_of (row_at rows i) ≡ amount_at demands i
  pub within : (s : ℕ) → s < length capacities → load lists rows s ≤ℤ amount_at capacities s

abbrev pub CanBeMet : List ℤ → List (List ℕ) → List ℤ → Type 0
CanBeMet demands lists capacities = (rows : List (List ℤ))
    × IsAssignment demands lists capacities rows

-- the numbers of a list, as a set of m
abbrev pub set_of : ℕ → List ℕ → List Bool
set_of m [] = empty_set m
set_of m (s ∷ slots) = slice_set (set_of m slots) s true

-- the slots in the lists of a set of demands, as a set of m
abbrev pub slots_of : ℕ → List (List ℕ) → List Bool → List Bool
slots_of m [] set = empty_set m
slots_of m (slots ∷ lists) [] = empty_set m
slots_of m (slots ∷ lists) (b ∷ set) = if b then union (set_of m slots) (slots_of m lists set) else
    slots_of m lists set

-- a set of demands asks for more than its slots have, each slot counted once
pub record IsShort (demands : List ℤ) (lists : List (List ℕ)) (capacities : List ℤ)
    (set : List Bool) : Type 0 where
  pub places : length set ≡ length demands
  pub more : sum_over (slots_of (length capacities) lists set) capacities <ℤ sum_over set demands

-- r is the greatest amount that the demand u can get while all others are met
pub record IsMost (demands : List ℤ) (lists : List (List ℕ)) (capacities : List ℤ) (u : ℕ)
    (r : ℤ) : Type 0 where
  pub reached : CanBeMet (slice_set demands u r) lists capacities
  pub greatest : (b : ℤ) → CanBeMet (slice_set demands u b) lists capacities → b ≤ℤ r

-- demands with their lists, and the capacities of the slots
pub record Demands : Type 0 where
  pub demands : List ℤ
  pub lists : List (List ℕ)
  pub capacities : List ℤ

-- a demand, from 0 to 10^32
pub record IsAmount (a : ℤ) : Type 0 where
  pub low : pos 0 ≤ℤ a
  pub high : a ≤ℤ pos (10 ^ 32)

-- the capacity of a slot, from 0 to 10^24
pub record IsCapacity (a : ℤ) : Type 0 where
  pub low : pos 0 ≤ℤ a
  pub high : a ≤ℤ pos (10 ^ 24)

-- at most 256 demands and 2^24 slots, numbers within the bounds, and slots that exist
pub record AreDemands (d : Demands) : Type 0 where
  pub same : length d.lists ≡ length d.demands
  pub few : length d.demands ≤ 256
  pub few_slots : length d.capacities ≤ 2 ^ 24
  pub amounts : All IsAmount d.demands
  pub bounded : All IsCapacity d.capacities
  pub exist : All (All (λ s. s < length d.capacities)) d.lists
