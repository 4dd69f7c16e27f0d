-- Amounts that are raised within what demands lack and what slots have left.
use Rattle.std.specs.Prelude.{ℕ, List, Bool, length, ℤ, Option, MatchOption}
use Rattle.std.specs.List.{All}
use Rattle.sfm_cells.specs.Splits.{IsCapacity}
use Rattle.sfm_cells.specs.Cells.{AreCells, IsPart, IsMet, IsLacking}
use Rattle.sfm_cells.specs.Left.{AreLeft}
use Rattle.sfm_split.specs.Search.{GetsMore}

-- amounts by which no demand gets less than before, and what they leave of demands and of
-- capacities
pub record IsPouring (demands capacities : List ℤ) (whos slots : List ℕ)
    (y z lacks rooms : List ℤ) : Type 0 where
  pub part : IsPart demands capacities whos slots z
  pub more : GetsMore whos y z
  pub lacks_are : AreLeft demands whos z lacks
  pub rooms_are : AreLeft capacities slots z rooms

-- amounts on cells within some demands and capacities, and what they leave of these
pub record AreWithin (whos slots : List ℕ) (y lacks rooms : List ℤ) : Type 0 where
  pub demands : List ℤ
  pub capacities : List ℤ
  pub cells : AreCells (length demands) (length capacities) whos slots
  pub bounded : All IsCapacity capacities
  pub part : IsPart demands capacities whos slots y
  pub lacks_are : AreLeft demands whos y lacks
  pub rooms_are : AreLeft capacities slots y rooms

-- amounts are raised, and with them what they leave: whatever demands and capacities they were
-- within, they still are, and no demand gets less
pub record AreRaised (whos slots : List ℕ) (y lacks rooms z lacks_after rooms_after : List ℤ) : Type
    0 where
  pub each : (demands capacities before : List ℤ)
      → AreCells (length demands) (length capacities) whos slots
      → IsPouring demands capacities whos slots before y lacks rooms
      → IsPouring demands capacities whos slots before z lacks_after rooms_after

-- no demand lacks anything; or some do, and the set is closed and has all of these
pub record IsToldOf (whos slots : List ℕ) (z lacks rooms : List ℤ)
    (told : Option (List Bool)) : Type 0 where
  pub each : (demands capacities before : List ℤ)
      → AreCells (length demands) (length capacities) whos slots
      → IsPouring demands capacities whos slots before z lacks rooms
      → MatchOption told (IsMet demands whos z) (IsLacking demands capacities whos slots z)
