-- The laws of the weighted rank of the forests of a graph.
-- Textbook: Schrijver, Combinatorial Optimization, sections 39, 44 and 50.
use Rattle.std.proofs.Common.{◌≡◌, ℕ, Bool, true, List, length, ℤ, pos, neg_ℤ, ◌*ℤ◌, ◌≤ℤ◌, Some, map}
use Rattle.std.specs.List.{All}
use Rattle.std.proofs.lemmas.List.{length-replicate}
use Rattle.sfm_spec.specs.Sets.{whole_set}
use Rattle.sfm_spec.specs.Terms.{times, IsBase, IsFamily, IsSubmodular, IsGreedy}
use Rattle.sfm_spec.specs.Kinds.{Edge, IsForest, IsRankFunction}
use Rattle.sfm_rank.specs.Terms.{IsFirstBasis}
use Rattle.sfm_rank.proofs.Terms.{rank-bounded, rank-family, rank-function, rank-greedy, rank-law, rank-starts, rank-starts_small, at_places-times}
use Rattle.sfm_rank.proofs.Growing.{first_basis}
use Rattle.sfm_graphic.specs.Graphs.{graphic_basis, graphic_rank, graphic_size, graphic_start, graphic_value, taken}
use Rattle.sfm_graphic.specs.Forests.{forest-growth, forest-matroid, graphic-ranks}

basis-first : (edges : List Edge)
    → IsFirstBasis (length edges) (graphic_rank edges) (graphic_basis edges)
basis-first edges = first_basis (length edges) (IsForest edges) (graphic_rank edges)
    (forest-matroid edges) (graphic-ranks edges) (taken edges (whole_set (length edges)))
    (forest-growth edges (whole_set (length edges)) (length-replicate (length edges) true))

module _ (k : ℕ) (w : ℤ) (edges : List Edge) (same : length edges ≡ k) where
  pub graphic-function : IsRankFunction k w (IsForest edges) (graphic_value w edges)
  graphic-function = rw (← same)
      (rank-function (length edges) w (graphic_rank edges) (IsForest edges) (graphic-ranks edges))

  pub graphic-family : IsFamily k (graphic_value w edges)
  graphic-family = rank-family k w (graphic_rank edges)

module _ (k : ℕ) (w : ℤ) (edges : List Edge) (same : length edges ≡ k) (low : pos 0 ≤ℤ w) where
  pub graphic-submodular : IsSubmodular k (graphic_value w edges)
  graphic-submodular = rw (← same)
      (rank-law (length edges) w (IsForest edges) (graphic_rank edges) low (forest-matroid edges)
      (graphic-ranks edges))

  pub graphic-bounded : (s : List Bool) (a : ℤ) → length s ≡ k → graphic_value w edges s ≡ Some a
      → (neg_ℤ (graphic_size w edges) ≤ℤ a) × (a ≤ℤ graphic_size w edges)
  graphic-bounded = rw (← same) (rank-bounded (length edges) w (IsForest edges) (graphic_rank edges)
      low (forest-matroid edges) (graphic-ranks edges))

  pub graphic-greedy : (q : ℤ) → IsGreedy q (graphic_value w edges) k (graphic_start q w edges)
  graphic-greedy q = rw (← same)
      (rank-greedy (length edges) w (IsForest edges) (graphic_rank edges) low (forest-matroid edges)
      (graphic-ranks edges) (graphic_basis edges) (basis-first edges) q)

  pub graphic-starts : (q : ℤ) → pos 1 ≤ℤ q → (length (graphic_start q w edges) ≡ k)
      × IsBase (times q (graphic_value w edges)) (graphic_start q w edges)
  graphic-starts = rw (← same) (rank-starts (length edges) w (IsForest edges) (graphic_rank edges)
      low (forest-matroid edges) (graphic-ranks edges) (graphic_basis edges) (basis-first edges))

  pub graphic-starts_small : (q : ℤ) → pos 1 ≤ℤ q
      → All (λ a. (neg_ℤ (pos 2 *ℤ q *ℤ graphic_size w edges) ≤ℤ a)
      × (a ≤ℤ (pos 2 *ℤ q *ℤ graphic_size w edges))) (graphic_start q w edges)
  graphic-starts_small = rank-starts_small (length edges) w (IsForest edges) (graphic_rank edges)
      low (forest-matroid edges) (graphic-ranks edges) (graphic_basis edges) (basis-first edges)

pub graphic-starts_times : (q w : ℤ) (edges : List Edge)
    → graphic_start q w edges ≡ map (λ a. q *ℤ a) (graphic_start (pos 1) w edges)
graphic-starts_times q w edges = at_places-times q w (graphic_basis edges)
