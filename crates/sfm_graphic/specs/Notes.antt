-- What is kept beside a base of a graphic term: a split of it in the test of a vertex.
use Rattle.std.specs.Prelude.{◌≡◌, ◌⊎◌, ℕ, ◌<◌, ◌^◌, List, length, slice_index_or, ℤ, pos, ◌*ℤ◌, ◌≤ℤ◌}
use Rattle.std.specs.List.{All}
use Rattle.sfm_spec.specs.Bounds.{IsFactor}
use Rattle.sfm_spec.specs.Kinds.{Edge}
use Rattle.sfm_spec.specs.Terms.{IsBase, times}
use Rattle.sfm_assign.specs.Splits.{Demands, IsAmount, IsCapacity}
use Rattle.sfm_matroid.specs.Notes.{AreBeside, IsNear}
use Rattle.sfm_graphic.specs.Cuts.{IsWithinEnds}
use Rattle.sfm_graphic.specs.Graphs.{graphic_value}
use Rattle.sfm_graphic.specs.Numbered.{end_lists, numbered, vertex_capacities, vertex_count}
use Rattle.sfm_matroid.specs.declared.pair.SplitPair.{SplitPair}
use Rattle.sfm_graphic.specs.declared.rooted.RootSplit.{RootSplit}

-- edges as demands that are split over their ends, where each of m vertices holds c, but a nothing
abbrev pub end_demands : List Edge → ℕ → ℤ → List ℤ → ℕ → Demands
end_demands edges m c x a = record {
  demands = x;
  lists = end_lists edges;
  capacities = vertex_capacities m c a;
}

-- amounts for edges, and a number that each end may hold
pub record AreEndAmounts (edges : List Edge) (c : ℤ) (x : List ℤ) : Type 0 where
  pub sized : length x ≡ length edges
  pub amounts : All IsAmount x
  pub low : pos 0 ≤ℤ c
  pub high : c ≤ℤ pos (10 ^ 24)

-- whatever is split over the ends of edges, of which m vertices hold something
pub record IsOverEnds (edges : List Edge) (m : ℕ) (d : Demands) : Type 0 where
  pub places : length d.demands ≡ length edges
  pub lists : d.lists ≡ end_lists edges
  pub vertices : length d.capacities ≡ m

-- what m vertices hold where some edges get no more than c for each of their ends but one: c, or
-- more at such a one
pub record AreFreed (edges : List Edge) (m : ℕ) (c : ℤ) (x held : List ℤ) : Type 0 where
  pub places : length held ≡ m
  pub bounded : All IsCapacity held
  pub least : (v : ℕ) → v < m → c ≤ℤ slice_index_or held v (pos 0)
  pub freed : (v : ℕ) → v < m → (slice_index_or held v (pos 0) ≡ c) ⊎ IsWithinEnds edges m c x v

-- splits of whatever amounts over the same ends: the one that is kept, and a spare one
pub record AreOverEnds (edges : List Edge) (m : ℕ) (pair : SplitPair) : Type 0 where
  pub kept : IsOverEnds edges m pair.kept.demand
  pub spare : AreBeside pair

-- the split of x in the test of its root, where each of m vertices holds c; and a spare one over
-- the same ends
pub record IsRootSplit (edges : List Edge) (m : ℕ) (c : ℤ) (x : List ℤ) (note : RootSplit) : Type
    0 where
  pub split : note.pair.kept.demand ≡ end_demands edges m c x note.root
  pub spare : AreBeside note.pair
  pub near : IsNear note.pair (vertex_capacities m c note.spare_root)

-- a base of q times a graphic term of k edges
pub record IsGraphicBase (k : ℕ) (w : ℤ) (edges : List Edge) (q : ℤ) (x : List ℤ) : Type 0 where
  pub factor : IsFactor q
  pub sized : length x ≡ k
  pub base : IsBase (times q (graphic_value w edges)) x

-- what is kept beside a base of q times a graphic term: the split in the test of one vertex
abbrev pub graphic_fits : ℤ → List Edge → RootSplit → ℤ → List ℤ → Type 0
graphic_fits w edges note q x = IsRootSplit (numbered edges) (vertex_count edges) (q *ℤ w) x note
