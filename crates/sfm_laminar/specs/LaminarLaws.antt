-- The weighted rank of groups of which no two cross, and its laws.
-- Textbook: Schrijver, Combinatorial Optimization, sections 39 and 44.
use Rattle.std.proofs.Common.{◌≡◌, ℕ, Bool, List, length, ℤ, pos, neg_ℤ, ◌*ℤ◌, ◌≤ℤ◌, Some, map}
use Rattle.std.specs.List.{All}
use Rattle.sfm_spec.specs.Sets.{whole_set, size}
use Rattle.sfm_spec.specs.Terms.{SetFunction, times, IsBase, IsFamily, IsSubmodular, IsGreedy}
use Rattle.sfm_spec.specs.Kinds.{Group, IsRankFunction, IsWithinCaps}
use Rattle.sfm_rank.specs.Terms.{at_places, IsFirstBasis}
use Rattle.sfm_rank.proofs.Terms.{rank-bounded, rank-family, rank-function, rank-greedy, rank-law, rank-starts, rank-starts_small, at_places-times}
use Rattle.sfm_rank.proofs.Growing.{first_basis}
use Rattle.sfm_laminar.specs.Groups.{AreGroups}
use Rattle.sfm_laminar.specs.Grown.{grown}
use Rattle.sfm_laminar.specs.Ranks.{rank, caps-growth, caps-matroid, caps-ranks}

abbrev pub laminar_value : ℕ → ℤ → List Group → SetFunction
laminar_value k w groups s = Some (w *ℤ pos (rank k groups s))

-- the places that are taken one after another when all may be: a base of the matroid
abbrev pub basis_of : ℕ → List Group → List Bool
basis_of k groups = grown k groups (whole_set k) k

-- the greatest value: that of all places
abbrev pub laminar_size : ℕ → ℤ → List Group → ℤ
laminar_size k w groups = w *ℤ pos (size (basis_of k groups))

-- q·w at each place of the base of the matroid
abbrev pub laminar_start : ℕ → ℤ → ℤ → List Group → List ℤ
laminar_start k q w groups = at_places (q *ℤ w) (basis_of k groups)

pub laminar-family : (k : ℕ) (w : ℤ) (groups : List Group) → IsFamily k (laminar_value k w groups)
laminar-family k w groups = rank-family k w (rank k groups)

pub laminar-first : (k : ℕ) (groups : List Group) → AreGroups k groups
    → IsFirstBasis k (rank k groups) (basis_of k groups)
laminar-first k groups ok = first_basis k (IsWithinCaps groups) (rank k groups)
    (caps-matroid k groups ok) (caps-ranks k groups ok) (grown k groups (whole_set k))
    (caps-growth k groups ok (whole_set k))

pub laminar-function : (k : ℕ) (w : ℤ) (groups : List Group) → AreGroups k groups
    → IsRankFunction k w (IsWithinCaps groups) (laminar_value k w groups)
laminar-function k w groups ok = rank-function k w (rank k groups) (IsWithinCaps groups)
    (caps-ranks k groups ok)

module _ (k : ℕ) (w : ℤ) (groups : List Group) (low : pos 0 ≤ℤ w) (ok : AreGroups k groups) where
  pub laminar-submodular : IsSubmodular k (laminar_value k w groups)
  laminar-submodular = rank-law k w (IsWithinCaps groups) (rank k groups) low
      (caps-matroid k groups ok) (caps-ranks k groups ok)

  pub laminar-bounded : (s : List Bool) (a : ℤ) → length s ≡ k → laminar_value k w groups s ≡ Some a
      → (neg_ℤ (laminar_size k w groups) ≤ℤ a) × (a ≤ℤ laminar_size k w groups)
  laminar-bounded = rank-bounded k w (IsWithinCaps groups) (rank k groups) low
      (caps-matroid k groups ok) (caps-ranks k groups ok)

  pub laminar-greedy : (q : ℤ) → IsGreedy q (laminar_value k w groups) k
      (laminar_start k q w groups)
  laminar-greedy = rank-greedy k w (IsWithinCaps groups) (rank k groups) low
      (caps-matroid k groups ok) (caps-ranks k groups ok) (basis_of k groups)
      (laminar-first k groups ok)

  pub laminar-starts : (q : ℤ) → pos 1 ≤ℤ q → (length (laminar_start k q w groups) ≡ k)
      × IsBase (times q (laminar_value k w groups)) (laminar_start k q w groups)
  laminar-starts = rank-starts k w (IsWithinCaps groups) (rank k groups) low
      (caps-matroid k groups ok) (caps-ranks k groups ok) (basis_of k groups)
      (laminar-first k groups ok)

  pub laminar-starts_small : (q : ℤ) → pos 1 ≤ℤ q
      → All (λ a. (neg_ℤ ((pos 2 *ℤ q) *ℤ laminar_size k w groups) ≤ℤ a)
      × (a ≤ℤ ((pos 2 *ℤ q) *ℤ laminar_size k w groups))) (laminar_start k q w groups)
  laminar-starts_small = rank-starts_small k w (IsWithinCaps groups) (rank k groups) low
      (caps-matroid k groups ok) (caps-ranks k groups ok) (basis_of k groups)
      (laminar-first k groups ok)

pub laminar-starts_times : (k : ℕ) (q w : ℤ) (groups : List Group)
    → laminar_start k q w groups ≡ map (λ a. q *ℤ a) (laminar_start k (pos 1) w groups)
laminar-starts_times k q w groups = at_places-times q w (basis_of k groups)
