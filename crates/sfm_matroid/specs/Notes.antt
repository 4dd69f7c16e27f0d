-- What is kept beside a base: a split of it in a test.
use Rattle.std.specs.Prelude.{◌≡◌, ℕ, ◌<◌, ◌≤◌, ◌^◌, List, length, map, replicate, slice_set, ℤ, pos, ◌*ℤ◌, ◌≤ℤ◌, Option, Some, None}
use Rattle.std.specs.List.{All}
use Rattle.sfm_assign.specs.Splits.{CanBeMet, Demands, IsAmount, IsCapacity}
use Rattle.sfm_assign.specs.declared.kept.Kept.{Kept}
use Rattle.sfm_matroid.specs.Amounts.{IsBeside}
use Rattle.sfm_matroid.specs.declared.pair.Near.{Near}
use Rattle.sfm_matroid.specs.declared.pair.SplitPair.{SplitPair}
use Rattle.sfm_matroid.specs.declared.splits.SlotSplit.{SlotSplit}

-- elements as demands that are split over the slots of their entries, where each of m slots holds c
abbrev pub slot_demands : List (List ℕ) → ℕ → ℤ → List ℤ → Demands
slot_demands entries m c x = record { demands = x; lists = entries; capacities = replicate m c }

-- m times as much for each demand, over slots that hold m times as much
abbrev pub demands_times : ℤ → Demands → Demands
demands_times m d = record {
  demands = map (λ a. m *ℤ a) d.demands;
  lists = d.lists;
  capacities = map (λ a. m *ℤ a) d.capacities;
}

-- demands whose numbers are within the bounds m times too
pub record CanMultiply (m : ℤ) (d : Demands) : Type 0 where
  pub low : pos 1 ≤ℤ m
  pub amounts : All IsAmount (map (λ a. m *ℤ a) d.demands)
  pub bounded : All IsCapacity (map (λ a. m *ℤ a) d.capacities)

-- amounts for the elements of a few entries that list some of m slots, and a number c that each
-- slot holds
pub record AreSlotAmounts (entries : List (List ℕ)) (m : ℕ) (c : ℤ) (x : List ℤ) : Type 0 where
  pub few : length entries ≤ 256
  pub sized : length x ≡ length entries
  pub amounts : All IsAmount x
  pub low : pos 0 ≤ℤ c
  pub high : c ≤ℤ pos (10 ^ 24)
  pub few_slots : m ≤ 2 ^ 24
  pub below : All (All (λ v. v < m)) entries

-- nothing is asked for, over the slots of entries, where each of the slots holds 1
pub record IsFrame (entries : List (List ℕ)) (d : Demands) : Type 0 where
  pub below : All (All (λ v. v < length d.capacities)) entries
  pub none : d ≡ slot_demands entries (length d.capacities) (pos 1)
      (replicate (length entries) (pos 0))

-- the split of demands, or none where they cannot be met
abbrev pub IsSplitOrNone : Demands → Option Kept → Type 0
IsSplitOrNone d None = CanBeMet d.demands d.lists d.capacities → ⊥
IsSplitOrNone d (Some kept) = (kept.demand ≡ d) × CanBeMet d.demands d.lists d.capacities

-- a spare split, if there is one, is over the lists of the one that is kept
abbrev pub AreBeside : SplitPair → Type 0
AreBeside pair = (k : Kept) → pair.spare ≡ Some k → IsBeside pair.kept.demand k.demand

-- other numbers at two places, over slots that hold what is told
abbrev pub apart_at : Demands → Near → ℤ → ℤ → List ℤ → Demands
apart_at d n b c held = record {
  demands = slice_set (slice_set d.demands n.v b) n.u c;
  lists = d.lists;
  capacities = held;
}

-- the spare split differs from the one that is kept at two places alone, over slots that hold what
-- is told, if that is noted
abbrev pub IsNear : SplitPair → List ℤ → Type 0
IsNear pair held = (n : Near) (k : Kept) → pair.near ≡ Some n → pair.spare ≡ Some k
    → (b c : ℤ) × (k.demand ≡ apart_at pair.kept.demand n b c held)

-- the split of the entries where each slot holds c, with what the slots hold, and perhaps a spare
-- one
pub record IsSlotSplit (entries : List (List ℕ)) (c : ℤ) (x : List ℤ) (note : SlotSplit) : Type
    0 where
  pub m : ℕ
  pub below : All (All (λ v. v < m)) entries
  pub holds : note.capacities.items ≡ replicate m c
  pub split : note.pair.kept.demand ≡ slot_demands entries m c x
  pub spare : AreBeside note.pair
  pub near : IsNear note.pair (replicate m c)

-- what is kept beside a base of q times a transversal term: the split in its test
abbrev pub transversal_fits : ℤ → List (List ℕ) → SlotSplit → ℤ → List ℤ → Type 0
transversal_fits w entries note q x = IsSlotSplit entries (q *ℤ w) x note
