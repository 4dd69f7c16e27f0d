-- Numbers that a weighted rank is scaled with, amounts that are split, and what is asked of a split
-- beside another one.
use Rattle.std.specs.Prelude.{◌≡◌, ◌≢◌, ℕ, ◌<◌, ◌≤◌, ◌^◌, Bool, List, length, slice_set, slice_index_or, ℤ, pos, ◌+ℤ◌, ◌≤ℤ◌}
use Rattle.std.specs.List.{All}
use Rattle.sfm_spec.specs.Bounds.{IsEntry, IsFactor, IsGiven}
use Rattle.sfm_spec.specs.Terms.{exchanged}
use Rattle.sfm_assign.specs.Splits.{CanBeMet, Demands, IsAmount, IsCapacity}

-- a weight of a rank: a number that may be given, not below 0
pub record IsWeight (w : ℤ) : Type 0 where
  pub low : pos 0 ≤ℤ w
  pub given : IsGiven w

-- a factor and a weight
pub record AreFactors (q w : ℤ) : Type 0 where
  pub factor : IsFactor q
  pub weight : IsWeight w

-- a weight for each member of a set of few places
pub record CanWeigh (w : ℤ) (set : List Bool) : Type 0 where
  pub weight : IsWeight w
  pub few : length set ≤ 256

-- a few entries that may be a base of a factor times a weighted rank, and a set that tells what
-- they add up to
pub record CanAdd (q w : ℤ) (x : List ℤ) (set : List Bool) : Type 0 where
  pub factor : IsFactor q
  pub weigh : CanWeigh w set
  pub few : length x ≤ 256
  pub small : All IsEntry x

-- entries from 0 to a number that is not above what may be asked for
pub record AreCapped (c : ℤ) (x : List ℤ) : Type 0 where
  pub low : pos 0 ≤ℤ c
  pub high : c ≤ℤ pos (10 ^ 24)
  pub within : All (λ a. (pos 0 ≤ℤ a) × (a ≤ℤ c)) x

-- what u may be raised by where v has nothing, up to a limit
pub record IsRaise (x : List ℤ) (u v : ℕ) (limit : ℤ) : Type 0 where
  pub from : u < length x
  pub onto : v < length x
  pub rest : All IsAmount (slice_set x v (pos 0))
  pub low : pos 0 ≤ℤ limit
  pub small : IsAmount (slice_index_or (slice_set x v (pos 0)) u (pos 0) +ℤ limit)

-- amounts of which v gives a to u, and that are amounts then too
pub record CanMove (x : List ℤ) (u v : ℕ) (a : ℤ) : Type 0 where
  pub from : u < length x
  pub onto : v < length x
  pub apart : u ≢ v
  pub before : All IsAmount x
  pub after : All IsAmount (exchanged x u v a)

-- whatever is split over the lists of other demands, over as many slots
pub record IsBeside (other d : Demands) : Type 0 where
  pub lists : d.lists ≡ other.lists
  pub places : length d.demands ≡ length other.demands
  pub slots : length d.capacities ≡ length other.capacities

-- the entries with nothing at v, over the lists of other demands, where slots hold what is told
abbrev pub rest_of : Demands → List ℤ → ℕ → List ℤ → Demands
rest_of d x v held = record { demands = slice_set x v (pos 0); lists = d.lists; capacities = held }

-- a split of the entries with nothing at v, over the lists of other demands, where as many slots
-- hold what is told
pub record CanHold (d : Demands) (x : List ℤ) (v : ℕ) (held : List ℤ) : Type 0 where
  pub sized : length x ≡ length d.demands
  pub slots : length held ≡ length d.capacities
  pub bounded : All IsCapacity held
  pub met : CanBeMet (slice_set x v (pos 0)) d.lists held
