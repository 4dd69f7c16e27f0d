-- What the four kinds of rank share: each is a matroid with ranks, and its values and its size are
-- by these.
use Rattle.std.proofs.Common.{◌≡◌, ◌↔◌, ℕ, Bool, List, length, refl, subst}
use Rattle.sfm_spec.specs.Terms.{SetFunction}
use Rattle.sfm_spec.specs.Kinds.{IsForest, IsMatchable}
use Rattle.sfm_spec.specs.Laws.{ones}
use Rattle.sfm_rank.specs.Matroids.{IsMatroid, AreRanks}
use Rattle.sfm_layers.specs.Weights.{IsWeightedRank}
use Rattle.sfm_concave.proofs.UniformRanks.{uniform_rank, uniform-matroid, uniform-ranks}
use Rattle.sfm_laminar.specs.Ranks.{rank, caps-matroid, caps-ranks}
use Rattle.sfm_graphic.specs.Graphs.{graphic_rank}
use Rattle.sfm_graphic.specs.Forests.{forest-matroid, graphic-ranks}
use Rattle.sfm_matroid.specs.Slots.{transversal_rank}
use Rattle.sfm_matroid.specs.Matchings.{matching-matroid}
use Rattle.sfm_matroid.specs.Transversals.{transversal-ranks}
use Rattle.sfm_kind.specs.Meanings.{kind_places, IsIndependentIn, factor_of, IsValueOf, value_of_all, size_by}
use Rattle.sfm_kind.specs.Layers.{IsRankKind}
use Rattle.sfm_kind.specs.declared.kind.Kind.{Kind}
use Rattle.sfm_kind.specs.declared.kind.Kind.TheVariants.{Weight, Cut, Cover, Need, Table, Concave, Uniform, Laminar, Graphic, Transversal}

-- a matroid with the rank of each part
pub record IsRanked (k : ℕ) (IsIndependent : List Bool → Type 0) : Type 0 where
  pub rank : List Bool → ℕ
  pub matroid : IsMatroid k IsIndependent
  pub ranks : AreRanks k IsIndependent rank

pub kind-ranked : (kind : Kind) → IsRankKind kind
    → IsRanked (length (kind_places kind)) (IsIndependentIn kind)
kind-ranked (Uniform term) is = record {
  rank = uniform_rank term.cap;
  matroid = uniform-matroid (length term.places) term.cap term.cap_low;
  ranks = uniform-ranks (length term.places) term.cap term.cap_low;
}
kind-ranked (Laminar term) is = record {
  rank = rank (length term.places) term.groups;
  matroid = caps-matroid (length term.places) term.groups term.grouped;
  ranks = caps-ranks (length term.places) term.groups term.grouped;
}
kind-ranked (Graphic term) is = subst (λ n. IsRanked n (IsForest term.ends)) term.same_count
    (record {
      rank = graphic_rank term.ends;
      matroid = forest-matroid term.ends;
      ranks = graphic-ranks term.ends;
    })
kind-ranked (Transversal term) is =
    subst (λ n. IsRanked n (IsMatchable term.entries)) term.same_count (record {
      rank = transversal_rank term.entries;
      matroid = matching-matroid (length term.entries) term.entries;
      ranks = transversal-ranks term.entries;
    })
kind-ranked (Weight term) is = absurd is
kind-ranked (Cut term) is = absurd is
kind-ranked (Cover term) is = absurd is
kind-ranked (Need term) is = absurd is
kind-ranked (Table term) is = absurd is
kind-ranked (Concave term) is = absurd is

-- the values of a rank
rank-values : (kind : Kind) (f : SetFunction) → IsRankKind kind → IsValueOf kind f
    ↔ IsWeightedRank (factor_of kind) (IsIndependentIn kind) (ones (length (kind_places kind))) f
rank-values (Uniform term) f is = (λ h. h, λ h. h)
rank-values (Laminar term) f is = (λ h. h, λ h. h)
rank-values (Graphic term) f is = (λ h. h, λ h. h)
rank-values (Transversal term) f is = (λ h. h, λ h. h)
rank-values (Weight term) f is = absurd is
rank-values (Cut term) f is = absurd is
rank-values (Cover term) f is = absurd is
rank-values (Need term) f is = absurd is
rank-values (Table term) f is = absurd is
rank-values (Concave term) f is = absurd is

pub rank-valued : (kind : Kind) (f : SetFunction) → IsRankKind kind → IsValueOf kind f
    → IsWeightedRank (factor_of kind) (IsIndependentIn kind) (ones (length (kind_places kind))) f
rank-valued kind f is = (rank-values kind f is).0

pub valued-rank : (kind : Kind) (f : SetFunction) → IsRankKind kind
    → IsWeightedRank (factor_of kind) (IsIndependentIn kind) (ones (length (kind_places kind))) f
    → IsValueOf kind f
valued-rank kind f is = (rank-values kind f is).1

-- the size of a rank is its value of all
pub rank-sized : (kind : Kind) (f : SetFunction) → IsRankKind kind
    → size_by kind f ≡ value_of_all (length (kind_places kind)) f
rank-sized (Uniform term) f is = refl
rank-sized (Laminar term) f is = refl
rank-sized (Graphic term) f is = refl
rank-sized (Transversal term) f is = refl
rank-sized (Weight term) f is = absurd is
rank-sized (Cut term) f is = absurd is
rank-sized (Cover term) f is = absurd is
rank-sized (Need term) f is = absurd is
rank-sized (Table term) f is = absurd is
rank-sized (Concave term) f is = absurd is
