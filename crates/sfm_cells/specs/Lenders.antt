-- Demands that are changed: who can lend, which is a demand that, given one less, leaves room for
-- one more at another; and the most that a demand can get besides.
use Rattle.std.specs.Prelude.{◌≢◌, ℕ, List, slice_set, ℤ, pos, ◌+ℤ◌, ◌≤ℤ◌, ◌<ℤ◌}
use Rattle.sfm_spec.specs.Terms.{exchanged}
use Rattle.sfm_cells.specs.Splits.{amount_at, CanBeMet, Demands}

-- v is another demand than u, it asks for something, and all demands can be met where u asks for
-- one more and v for one less
pub record IsLender (demands : List ℤ) (lists : List (List ℕ)) (capacities : List ℤ)
    (u v : ℕ) : Type 0 where
  pub other : v ≢ u
  pub asks : pos 0 <ℤ amount_at demands v
  pub met : CanBeMet (exchanged demands u v (pos 1)) lists capacities

-- the demands, with g more at u
abbrev pub with_more : Demands → ℕ → ℤ → Demands
with_more d u g = record {
  demands = slice_set d.demands u (amount_at d.demands u +ℤ g);
  lists = d.lists;
  capacities = d.capacities;
}

-- g is the most, up to a limit, that the demand u can get besides what it asks for, with all others
-- met
pub record IsMostUpto (d : Demands) (u : ℕ) (limit g : ℤ) : Type 0 where
  pub low : pos 0 ≤ℤ g
  pub high : g ≤ℤ limit
  pub reached : CanBeMet (with_more d u g).demands d.lists d.capacities
  pub greatest : (b : ℤ) → pos 0 ≤ℤ b → b ≤ℤ limit
      → CanBeMet (with_more d u b).demands d.lists d.capacities → b ≤ℤ g
