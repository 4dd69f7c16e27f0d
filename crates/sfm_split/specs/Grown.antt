-- A split in which one demand asks for more: what is known before it is raised, and how far it
-- goes.
use Rattle.std.specs.Prelude.{ℕ, ◌<◌, List, length, ℤ, pos, ◌+ℤ◌, ◌≤ℤ◌}
use Rattle.sfm_cells.specs.Splits.{amount_at, IsAmount, Demands, AreDemands}
use Rattle.sfm_cells.specs.Cells.{AreMet}
use Rattle.sfm_cells.specs.Left.{AreLeft}
use Rattle.sfm_cells.specs.Lenders.{with_more, IsMostUpto}

-- amounts on the cells meet the demands, lacks and rooms are what they leave of these and of the
-- slots, and the demand u may ask for as much more as the limit
pub record MayGrow (d : Demands) (whos slots : List ℕ) (y lacks rooms : List ℤ) (u : ℕ)
    (limit : ℤ) : Type 0 where
  pub sound : AreDemands d
  pub met : AreMet d whos slots y
  pub lacks_are : AreLeft d.demands whos y lacks
  pub left : AreLeft d.capacities slots y rooms
  pub place : u < length d.demands
  pub low : pos 0 ≤ℤ limit
  pub small : IsAmount (amount_at d.demands u +ℤ limit)

-- they meet the demands with so much more at u, which is the most up to the limit
pub record IsGrown (d : Demands) (whos slots : List ℕ) (y rooms : List ℤ) (u : ℕ)
    (limit more : ℤ) : Type 0 where
  pub met : AreMet (with_more d u more) whos slots y
  pub left : AreLeft d.capacities slots y rooms
  pub amount : IsAmount (amount_at d.demands u +ℤ more)
  pub most : IsMostUpto d u limit more
