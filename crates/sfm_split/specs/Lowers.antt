-- Amounts that may be too much for demands and capacities, how they are lowered, and what other
-- totals they are brought within.
use Rattle.std.specs.Prelude.{◌≡◌, ℕ, ◌^◌, List, length, slice_set, ℤ, pos, ◌+ℤ◌, ◌≤ℤ◌}
use Rattle.std.specs.List.{All}
use Rattle.sfm_cells.specs.Splits.{amount_at, IsAmount, IsCapacity}
use Rattle.sfm_cells.specs.Cells.{AreCells, IsPart}
use Rattle.sfm_cells.specs.Left.{AreLeft}
use Rattle.sfm_split.specs.Sides.{of_side}
use Rattle.sfm_split.specs.declared.lower.Side.{Side}
use Rattle.sfm_split.specs.declared.lower.Side.TheVariants.{Demands, Slots}

-- amounts on cells, not negative, and what they leave of demands and of capacities: below nothing
-- where they are too much
pub record IsCharge (demands capacities : List ℤ) (whos slots : List ℕ)
    (y lacks rooms : List ℤ) : Type 0 where
  pub cells : length y ≡ length whos
  pub amounts : (e : ℕ) → pos 0 ≤ℤ amount_at y e
  pub lacks_are : AreLeft demands whos y lacks
  pub rooms_are : AreLeft capacities slots y rooms

-- what is left, even where amounts are too much by as much as a demand can ask for
abbrev pub AreSmall : List ℤ → Type 0
AreSmall left = (k : ℕ) → pos 0 ≤ℤ (amount_at left k +ℤ pos (10 ^ 32))

-- amounts on cells, and what they leave of some demands and capacities
pub record AreCharged (whos slots : List ℕ) (y lacks rooms : List ℤ) : Type 0 where
  pub demands : List ℤ
  pub capacities : List ℤ
  pub cells : AreCells (length demands) (length capacities) whos slots
  pub asked : All IsAmount demands
  pub bounded : All IsCapacity capacities
  pub charge : IsCharge demands capacities whos slots y lacks rooms
  pub lacks_small : AreSmall lacks
  pub rooms_small : AreSmall rooms

-- amounts are lowered, and what they leave rises: whatever demands and capacities it is left of
pub record AreLowered (whos slots : List ℕ) (y lacks rooms z lacks_after rooms_after : List ℤ)
    : Type 0 where
  pub each : (demands capacities : List ℤ)
      → AreCells (length demands) (length capacities) whos slots
      → IsCharge demands capacities whos slots y lacks rooms
      → IsCharge demands capacities whos slots z lacks_after rooms_after
  pub falls : (e : ℕ) → amount_at z e ≤ℤ amount_at y e
  pub lacks_rise : (i : ℕ) → amount_at lacks i ≤ℤ amount_at lacks_after i
  pub rooms_rise : (s : ℕ) → amount_at rooms s ≤ℤ amount_at rooms_after s

-- amounts on cells within demands and capacities, which are within their own bounds, and what they
-- leave of both
pub record IsStanding (demands capacities : List ℤ) (whos slots : List ℕ)
    (y lacks rooms : List ℤ) : Type 0 where
  pub cells : AreCells (length demands) (length capacities) whos slots
  pub asked : All IsAmount demands
  pub bounded : All IsCapacity capacities
  pub part : IsPart demands capacities whos slots y
  pub lacks_are : AreLeft demands whos y lacks
  pub rooms_are : AreLeft capacities slots y rooms

-- amounts that stand, with the totals of a side and the others of the other side
abbrev pub StandsBy : Side → List ℤ → List ℤ → List ℕ → List ℕ → List ℤ → List ℤ → List ℤ → Type 0
StandsBy side totals others = IsStanding (of_side side totals others) (of_side side others totals)

-- a total of a side, within its own bounds
abbrev pub IsTotal : Side → ℤ → Type 0
IsTotal Demands = IsAmount
IsTotal Slots = IsCapacity

-- what demands lack once it has changed on a side
abbrev pub lacks_put : Side → List ℤ → ℕ → ℤ → List ℤ
lacks_put side lacks k a = of_side side (slice_set lacks k (amount_at lacks k +ℤ a)) lacks

-- and what slots have left
abbrev pub rooms_put : Side → List ℤ → ℕ → ℤ → List ℤ
rooms_put side rooms k a = of_side side rooms (slice_set rooms k (amount_at rooms k +ℤ a))
