-- Greatest weights where each place weighs one: ranks.
use Rattle.std.proofs.Common.{◌≡◌, ℕ, Bool, List, length, ℤ, pos, ◌*ℤ◌, Some, refl, sym, ap, ◌∙◌, arith}
use Rattle.std.proofs.lemmas.Int.{ints}
use Rattle.sfm_spec.specs.Sets.{size}
use Rattle.sfm_spec.specs.Terms.{SetFunction}
use Rattle.sfm_spec.specs.Kinds.{IsRank, IsRankFunction}
use Rattle.sfm_spec.specs.Laws.{ones}
use Rattle.sfm_spec.proofs.Ones.{ones-places, sum-ones}
use Rattle.sfm_layers.specs.Weights.{IsGreatestWeight, IsWeightedRank}

-- two greatest weights of one part are equal
pub greatest-one : (IsIndependent : List Bool → Type 0) (weights : List ℤ) (s : List Bool) (a b : ℤ)
    → IsGreatestWeight IsIndependent weights s a → IsGreatestWeight IsIndependent weights s b
    → a ≡ b
greatest-one IsIndependent weights s a b ha hb =
    let (t, lt, wt, it, et) = ha.reached in
    let (u, lu, wu, iu, eu) = hb.reached in
    let above = hb.greatest t lt wt it in
    let below = ha.greatest u lu wu iu in
    omega (arith, ints, et, eu, above, below)

-- a rank is the greatest weight of an independent part where each place weighs one
pub greatest-of-rank : (k : ℕ) (IsIndependent : List Bool → Type 0) (s : List Bool) (r : ℕ)
    → length s ≡ k → IsRank IsIndependent s r → IsGreatestWeight IsIndependent (ones k) s (pos r)
greatest-of-rank k IsIndependent s r ks h = record {
  reached = (
    h.reached.0,
    h.reached.1,
    h.reached.2,
    h.reached.3,
    sum-ones k h.reached.0 (h.reached.1 ∙ ks) ∙ ap pos h.reached.4,
  );
  greatest = λ t lt within free.
      let sum = sum-ones k t (lt ∙ ks) in
      let most = h.greatest t lt within free in
      omega (arith, ints, sum, most);
}

-- such a greatest weight is a rank
pub rank-of-greatest : (k : ℕ) (IsIndependent : List Bool → Type 0) (s : List Bool) (r : ℤ)
    → length s ≡ k → IsGreatestWeight IsIndependent (ones k) s r → (n : ℕ) × (r ≡ pos n)
    × IsRank IsIndependent s n
rank-of-greatest k IsIndependent s r ks h =
    let (t, lt, wt, it, et) = h.reached in
    let sum = sum-ones k t (lt ∙ ks) in
    let same : r ≡ pos (size t) = omega (arith, ints, sum, et) in (
      size t,
      same,
      record {
        reached = (t, lt, wt, it, refl);
        greatest = λ u lu wu iu.
            let one = sum-ones k u (lu ∙ ks) in
            let most = h.greatest u lu wu iu in
            omega (arith, ints, one, most, same);
      },
    )

-- w times the rank is w times the greatest weight of an independent part where each place weighs
-- one
pub weighted-rank : (k : ℕ) (w : ℤ) (IsIndependent : List Bool → Type 0) (f : SetFunction)
    → IsRankFunction k w IsIndependent f → IsWeightedRank w IsIndependent (ones k) f
weighted-rank k w IsIndependent f rank s places =
    let ks = places ∙ ones-places k in
    let (r, h, value) = rank s ks in
    (pos r, greatest-of-rank k IsIndependent s r ks h, value)

-- and back
pub rank-weighted : (k : ℕ) (w : ℤ) (IsIndependent : List Bool → Type 0) (f : SetFunction)
    → IsWeightedRank w IsIndependent (ones k) f → IsRankFunction k w IsIndependent f
rank-weighted k w IsIndependent f rank s ks =
    let (r, h, value) = rank s (ks ∙ sym (ones-places k)) in
    let (n, same, is) = rank-of-greatest k IsIndependent s r ks h in
    (n, is, value ∙ ap (λ a. Some (w *ℤ a)) same)
