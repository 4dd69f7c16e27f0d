-- The bar of a row at a base of a concave function, by the ranking of the base.
use Rattle.std.proofs.Common.{◌≡◌, ℕ, ◌-◌, ◌<◌, List, length, get_or, ℤ, pos, Some, None}
use Rattle.sfm_concave.specs.ConcaveLaws.{scaled}
use Rattle.sfm_concave.specs.Rankings.{IsRanking, IsCut}
use Rattle.sfm_concave.specs.Thresholds.{slack_from, IsBar, IsLastTight, NoneTight}
use Rattle.sfm_concave.proofs.ConcaveRooms.{IsConcaveBase, base-falling, concave_slack, concave_total}
use Rattle.sfm_concave.proofs.Tights.{own_some, own_bar, none_bar, tight_bar}

-- at a base with its ranking, the first n entries are those that are at most the entry of u
pub record IsOwnCut (q : ℤ) (g x y sums : List ℤ) (u n : ℕ) : Type 0 where
  pub here : IsConcaveBase q g x
  pub ranked : IsRanking x y sums
  pub ku : u < length x
  pub cut : IsCut (get_or x u (pos 0)) y n

module _ {q : ℤ} {g x y sums : List ℤ} {u n : ℕ} (own : IsOwnCut q g x y sums u n) where
  pub concave_own_some : 0 < n
  concave_own_some = own_some (scaled q g) x y own.ranked.same own.ranked.ascending
      (base-falling own.here) (concave_slack q g x own.here.base)
      (concave_total q g x own.here.base) u own.ku n own.cut

  pub concave_own_bar : slack_from (scaled q g) y (n - 1) ≡ pos 0
      → IsBar (scaled q g) x u (Some (get_or x u (pos 0)))
  concave_own_bar = own_bar (scaled q g) x y own.ranked.same own.ranked.ascending
      (base-falling own.here) (concave_slack q g x own.here.base)
      (concave_total q g x own.here.base) u own.ku n own.cut

  module _ (loose : slack_from (scaled q g) y (n - 1) ≡ pos 0 → ⊥) where
    pub concave_none_bar : NoneTight (scaled q g) y (n - 1) → IsBar (scaled q g) x u None
    concave_none_bar = none_bar (scaled q g) x y own.ranked.same own.ranked.ascending
        (base-falling own.here) (concave_slack q g x own.here.base)
        (concave_total q g x own.here.base) u own.ku n own.cut loose

    pub concave_tight_bar : (i : ℕ) → IsLastTight (scaled q g) y (n - 1) i
        → IsBar (scaled q g) x u (Some (get_or y (i - 1) (pos 0)))
    concave_tight_bar = tight_bar (scaled q g) x y own.ranked.same own.ranked.ascending
        (base-falling own.here) (concave_slack q g x own.here.base)
        (concave_total q g x own.here.base) u own.ku n own.cut loose
