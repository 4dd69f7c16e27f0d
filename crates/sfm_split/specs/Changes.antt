-- Demands that change one after another, each by an amount.
use Rattle.std.specs.Prelude.{⊤, ℕ, ◌<◌, List, [], ◌∷◌, ◌≡◌, length, slice_set, ℤ, ◌+ℤ◌}
use Rattle.sfm_cells.specs.Splits.{amount_at, IsAmount, Demands, AreDemands}
use Rattle.sfm_cells.specs.Cells.{joined, owners, AreMet}
use Rattle.sfm_cells.specs.Left.{AreLeft}
use Rattle.sfm_split.specs.Lowers.{IsStanding, StandsBy, IsTotal}
use Rattle.sfm_split.specs.declared.lower.Change.{Change}
use Rattle.sfm_split.specs.declared.lower.Side.{Side}

-- the total of a change, and all others as they were
abbrev pub with_change : Change → List ℤ → List ℤ
with_change c totals = slice_set totals c.k (amount_at totals c.k +ℤ c.more)

-- the demands once all have changed
abbrev pub changed : List Change → List ℤ → List ℤ
changed [] demands = demands
changed (c ∷ changes) demands = changed changes (with_change c demands)

-- demands over the same lists once all have changed, with other capacities
abbrev pub changed_demands : List Change → List ℤ → Demands → Demands
changed_demands changes capacities d = record {
  demands = changed changes d.demands;
  lists = d.lists;
  capacities = capacities;
}

-- each changes to what a demand may be
abbrev pub AreChanges : List Change → List ℤ → Type 0
AreChanges [] demands = ⊤
AreChanges (c ∷ changes) demands = (c.k < length demands)
    × IsAmount (amount_at demands c.k +ℤ c.more) × AreChanges changes (with_change c demands)

-- amounts that stand, where one total of a side can change
pub record CanTurn (side : Side) (totals others : List ℤ) (whos slots : List ℕ)
    (y lacks rooms : List ℤ) (c : Change) : Type 0 where
  pub stands : StandsBy side totals others whos slots y lacks rooms
  pub place : c.k < length totals
  pub total : IsTotal side (amount_at totals c.k +ℤ c.more)

-- amounts within demands, on the cells of these, and what they leave
pub record IsBegun (d : Demands) (whos slots : List ℕ) (y lacks rooms : List ℤ) : Type 0 where
  pub sound : AreDemands d
  pub in_order : whos ≡ owners 0 d.lists
  pub in_lists : slots ≡ joined d.lists
  pub stands : IsStanding d.demands d.capacities whos slots y lacks rooms

-- amounts by which demands are met, and what they leave
pub record IsEnded (d : Demands) (whos slots : List ℕ) (y lacks rooms : List ℤ) : Type 0 where
  pub met : AreMet d whos slots y
  pub lacks_are : AreLeft d.demands whos y lacks
  pub rooms_are : AreLeft d.capacities slots y rooms
