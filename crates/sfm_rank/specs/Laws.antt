-- What holds of the rank of any matroid, and of what grows place by place, by the independent sets
-- alone. Textbook: Schrijver, Combinatorial Optimization, sections 39, 40 and 44.
use Rattle.std.proofs.Common.{◌≡◌, ℕ, suc, ◌<◌, ◌≤◌, Bool, true, List, length, set, ℤ, ◌*ℤ◌}
use Rattle.sfm_spec.specs.Sets.{IsWithin, whole_set, size}
use Rattle.sfm_spec.specs.Terms.{times, IsBase, IsFamily, IsSubmodular}
use Rattle.sfm_spec.specs.Kinds.{IsRank}
use Rattle.sfm_rank.specs.Growth.{IsGrowth}
use Rattle.sfm_rank.specs.Terms.{at_places, rank_value}

-- the rank grows with the part, by at most one for a place, and w times it is a term
pub record RankLaws (k : ℕ) (w : ℤ) (rank : List Bool → ℕ) : Type 0 where
  pub grows : (s t : List Bool) → length s ≡ k → length t ≡ k → IsWithin s t → rank s ≤ rank t
  pub few : (s : List Bool) → length s ≡ k → rank s ≤ size s
  pub one : (s : List Bool) (e : ℕ) → length s ≡ k → e < k → rank (set s e true) ≤ suc (rank s)
  pub family : IsFamily k (rank_value w rank)
  pub submodular : IsSubmodular k (rank_value w rank)

-- what grows by the places of a part is as large as the rank of the part; what grows by all places
-- gives a base of q times w times the rank
pub record GrowthLaws (k : ℕ) (q w : ℤ) (IsIndependent : List Bool → Type 0)
    (rank : List Bool → ℕ) : Type 0 where
  pub reaches : (s : List Bool) (sets : ℕ → List Bool) → length s ≡ k
      → IsGrowth k IsIndependent s sets → IsRank IsIndependent s (size (sets k))
  pub starts : (sets : ℕ → List Bool) → IsGrowth k IsIndependent (whole_set k) sets
      → IsBase (times q (rank_value w rank)) (at_places (q *ℤ w) (sets k))
