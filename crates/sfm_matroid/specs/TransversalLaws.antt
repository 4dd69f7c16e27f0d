-- The laws of the weighted rank of the sets whose members have distinct slots of their own entries.
-- Textbook: Schrijver, Combinatorial Optimization, sections 39 and 44.
use Rattle.std.proofs.Common.{◌≡◌, ℕ, Bool, List, length, ℤ, pos, neg_ℤ, ◌*ℤ◌, ◌≤ℤ◌, Some, map}
use Rattle.std.specs.List.{All}
use Rattle.sfm_spec.specs.Terms.{times, IsBase, IsFamily, IsSubmodular, IsGreedy}
use Rattle.sfm_spec.specs.Kinds.{IsMatchable, IsRankFunction}
use Rattle.sfm_rank.proofs.Terms.{rank-bounded, rank-family, rank-function, rank-greedy, rank-law, rank-starts, rank-starts_small, at_places-times}
use Rattle.sfm_matroid.specs.Slots.{transversal_basis, transversal_rank, transversal_size, transversal_start, transversal_value}
use Rattle.sfm_matroid.specs.Matchings.{matching-matroid}
use Rattle.sfm_matroid.specs.Transversals.{transversal-first, transversal-ranks}

module _ (k : ℕ) (w : ℤ) (entries : List (List ℕ)) (same : length entries ≡ k) where
  pub transversal-function : IsRankFunction k w (IsMatchable entries) (transversal_value w entries)
  transversal-function = rw (← same)
      (rank-function (length entries) w (transversal_rank entries) (IsMatchable entries)
      (transversal-ranks entries))

  pub transversal-family : IsFamily k (transversal_value w entries)
  transversal-family = rank-family k w (transversal_rank entries)

module _ (k : ℕ) (w : ℤ) (entries : List (List ℕ)) (same : length entries ≡ k)
    (low : pos 0 ≤ℤ w) where
  pub transversal-submodular : IsSubmodular k (transversal_value w entries)
  transversal-submodular = rw (← same)
      (rank-law (length entries) w (IsMatchable entries) (transversal_rank entries) low
      (matching-matroid (length entries) entries) (transversal-ranks entries))

  pub transversal-bounded : (s : List Bool) (a : ℤ) → length s ≡ k
      → transversal_value w entries s ≡ Some a → (neg_ℤ (transversal_size w entries) ≤ℤ a)
      × (a ≤ℤ transversal_size w entries)
  transversal-bounded = rw (← same)
      (rank-bounded (length entries) w (IsMatchable entries) (transversal_rank entries) low
      (matching-matroid (length entries) entries) (transversal-ranks entries))

  pub transversal-greedy : (q : ℤ)
      → IsGreedy q (transversal_value w entries) k (transversal_start q w entries)
  transversal-greedy q = rw (← same)
      (rank-greedy (length entries) w (IsMatchable entries) (transversal_rank entries) low
      (matching-matroid (length entries) entries) (transversal-ranks entries)
      (transversal_basis entries) (transversal-first entries) q)

  pub transversal-starts : (q : ℤ) → pos 1 ≤ℤ q → (length (transversal_start q w entries) ≡ k)
      × IsBase (times q (transversal_value w entries)) (transversal_start q w entries)
  transversal-starts = rw (← same)
      (rank-starts (length entries) w (IsMatchable entries) (transversal_rank entries) low
      (matching-matroid (length entries) entries) (transversal-ranks entries)
      (transversal_basis entries) (transversal-first entries))

  pub transversal-starts_small : (q : ℤ) → pos 1 ≤ℤ q
      → All (λ a. (neg_ℤ (pos 2 *ℤ q *ℤ transversal_size w entries) ≤ℤ a)
      × (a ≤ℤ (pos 2 *ℤ q *ℤ transversal_size w entries))) (transversal_start q w entries)
  transversal-starts_small = rank-starts_small (length entries) w (IsMatchable entries)
      (transversal_rank entries) low (matching-matroid (length entries) entries)
      (transversal-ranks entries) (transversal_basis entries) (transversal-first entries)

pub transversal-starts_times : (q w : ℤ) (entries : List (List ℕ))
    → transversal_start q w entries ≡ map (λ a. q *ℤ a) (transversal_start (pos 1) w entries)
transversal-starts_times q w entries = at_places-times q w (transversal_basis entries)
