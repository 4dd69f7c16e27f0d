-- A number w times the rank of a matroid is a term: its laws, and the base that a greatest
-- independent set gives. Textbook: Schrijver, Combinatorial Optimization, sections 39, 40 and 44.
use Rattle.std.proofs.Common.{◌≡◌, ℕ, zero, suc, ◌+◌, ◌<◌, Bool, true, false, cond, List, [], ◌∷◌, length, get_or, ℤ, pos, neg_ℤ, ◌+ℤ◌, ◌-ℤ◌, ◌*ℤ◌, ◌≤ℤ◌, if◌then◌else◌, Some, refl, sym, ap, ◌∙◌, arith, map}
use Rattle.std.specs.List.{All}
use Rattle.std.proofs.lemmas.Int.{ints}
use Rattle.std.proofs.lemmas.List.{length-replicate}
use Rattle.std.proofs.Math.IntN.{*ℤ-zero}
use Rattle.sfm_spec.specs.Sets.{Has, whole_set}
use Rattle.sfm_spec.specs.Terms.{times, first_places, IsBase, IsFamily, IsSubmodular, IsGreedy}
use Rattle.sfm_spec.specs.Kinds.{IsRankFunction}
use Rattle.sfm_spec.proofs.Scaled.{times-mono, times-add}
use Rattle.sfm_spec.proofs.Search.{within_whole}
use Rattle.sfm_law.proofs.Greedy.{front, first_places-front, first_places-more, greedy_base, greedy_small}
use Rattle.sfm_rank.specs.Matroids.{AreRanks, IsMatroid}
use Rattle.sfm_rank.specs.Terms.{at_places, rank_value, IsFirstBasis}
use Rattle.sfm_rank.proofs.Ranks.{rank-mono, rank-submodular}
use Rattle.sfm_law.proofs.Multiples.{times-once}

pub at_places-length : (m : ℤ) (s : List Bool) → length (at_places m s) ≡ length s
at_places-length m [] = refl
at_places-length m (b ∷ s) = let r : length (at_places m s) ≡ length s = at_places-length m
    s in omega (arith, r)

pub at_places-at : (m : ℤ) (s : List Bool) (j : ℕ)
    → get_or (at_places m s) j (pos 0) ≡ (if get_or s j false then m else pos 0)
at_places-at m [] j = refl
at_places-at m (b ∷ s) zero = refl
at_places-at m (b ∷ s) (suc j) = at_places-at m s j

-- what a place gets of the base that a greatest independent set gives: q·w if it is a member, and
-- else 0
pub share-out : (q w : ℤ) (basis : List Bool) (j : ℕ) → get_or basis j false ≡ false
    → get_or (at_places (q *ℤ w) basis) j (pos 0) ≡ pos 0
share-out q w basis j out = at_places-at (q *ℤ w) basis j ∙ rw out refl

pub share-in : (q w : ℤ) (basis : List Bool) (j : ℕ) → Has basis j
    → get_or (at_places (q *ℤ w) basis) j (pos 0) ≡ (q *ℤ w)
share-in q w basis j has = at_places-at (q *ℤ w) basis j ∙ rw has refl

module _ (k : ℕ) (w : ℤ) (rank : List Bool → ℕ) where
  pub rank-function : (IsIndependent : List Bool → Type 0) → AreRanks k IsIndependent rank
      → IsRankFunction k w IsIndependent (rank_value w rank)
  rank-function IsIndependent ranks s ks = (rank s, ranks s ks, refl)

  pub rank-family : IsFamily k (rank_value w rank)
  rank-family = record {
    empty = refl;
    whole = refl;
    unions = λ s t l g a b. refl;
    intersections = λ s t l g a b. refl;
  }

module _ (k : ℕ) (w : ℤ) (IsIndependent : List Bool → Type 0) (rank : List Bool → ℕ)
    (low : pos 0 ≤ℤ w) (matroid : IsMatroid k IsIndependent)
    (ranks : AreRanks k IsIndependent rank) where
  pub rank-law : IsSubmodular k (rank_value w rank)
  rank-law = rank-submodular k IsIndependent rank matroid ranks w low

  small : (s : List Bool) → length s ≡ k
      → (neg_ℤ (w *ℤ pos (rank (whole_set k))) ≤ℤ (w *ℤ pos (rank s)))
      × ((w *ℤ pos (rank s)) ≤ℤ (w *ℤ pos (rank (whole_set k))))
  small s ks =
      let z = *ℤ-zero w in
      let under = times-mono w (pos 0) (pos (rank s)) low (omega (arith, ints)) in
      let r = rank-mono k IsIndependent rank matroid ranks s (whole_set k) ks
      (length-replicate k true) (within_whole k s ks) in
      let over = times-mono w (pos (rank s)) (pos (rank (whole_set k))) low
      (omega (arith, ints, r)) in
      (omega (arith, ints, z, under, over), over)

  pub rank-bounded : (s : List Bool) (a : ℤ) → length s ≡ k → rank_value w rank s ≡ Some a
      → (neg_ℤ (w *ℤ pos (rank (whole_set k))) ≤ℤ a) × (a ≤ℤ (w *ℤ pos (rank (whole_set k))))
  rank-bounded s a ks e = let f : (w *ℤ pos (rank s)) ≡ a = cc in rw (← f) (small s ks)

  module _ (basis : List Bool) (first : IsFirstBasis k rank basis) where
    pub rank-greedy : (q : ℤ) → IsGreedy q (rank_value w rank) k (at_places (q *ℤ w) basis)
    rank-greedy q = record {
      places = at_places-length (q *ℤ w) basis ∙ first.places;
      gains = gains;
    } where
      amount : (j : ℕ) (b : Bool) → rank (front k (suc j)) ≡ rank (front k j) + cond b 1 0
          → (if b then (q *ℤ w) else pos 0)
          ≡ (q *ℤ ((w *ℤ pos (rank (front k (suc j)))) -ℤ (w *ℤ pos (rank (front k j)))))
      amount j true e =
          let one : pos (rank (front k (suc j))) ≡ (pos (rank (front k j)) +ℤ pos 1) = omega (
            arith,
            ints,
            e,
          ) in
          let p = ap (λ a. w *ℤ a) one ∙ times-add w (pos (rank (front k j))) (pos 1) in
          let d : ((w *ℤ pos (rank (front k (suc j)))) -ℤ (w *ℤ pos (rank (front k j))))
          ≡ w = omega (arith, ints, p) in
          ap (λ a. q *ℤ a) (sym d)
      amount j false e =
          let one : pos (rank (front k (suc j))) ≡ pos
          (rank (front k j)) = omega (arith, ints, e) in
          let p = ap (λ a. w *ℤ a) one in
          let d : ((w *ℤ pos (rank (front k (suc j)))) -ℤ (w *ℤ pos (rank (front k j)))) ≡ pos
          0 = omega (arith, ints, p) in
          sym (ap (λ a. q *ℤ a) d ∙ *ℤ-zero q)

      gains : (j : ℕ) (a b : ℤ) → j < k → rank_value w rank (first_places k (j + 1)) ≡ Some a
          → rank_value w rank (first_places k j) ≡ Some b
          → get_or (at_places (q *ℤ w) basis) j (pos 0) ≡ (q *ℤ (a -ℤ b))
      gains j a b lt ea eb =
          let fa : (w *ℤ pos (rank (first_places k (j + 1)))) ≡ a = cc in
          let fb : (w *ℤ pos (rank (first_places k j))) ≡ b = cc in
          let na = ap (λ s. w *ℤ pos (rank s)) (first_places-more k j lt) in
          let nb = ap (λ s. w *ℤ pos (rank s)) (first_places-front k j (omega arith)) in
          at_places-at (q *ℤ w) basis j ∙ amount j (get_or basis j false) (first.gains j lt)
          ∙ ap (λ c. q *ℤ (c -ℤ (w *ℤ pos (rank (front k j))))) (sym na ∙ fa)
          ∙ ap (λ c. q *ℤ (a -ℤ c)) (sym nb ∙ fb)

    pub rank-starts : (q : ℤ) → pos 1 ≤ℤ q → (length (at_places (q *ℤ w) basis) ≡ k)
        × IsBase (times q (rank_value w rank)) (at_places (q *ℤ w) basis)
    rank-starts q hq =
        let greedy = rank-greedy q in (
          greedy.places,
          greedy_base k q (λ s. w *ℤ pos (rank s)) (at_places (q *ℤ w) basis)
              (omega (arith, ints)) rank-law greedy,
        )

    pub rank-starts_small : (q : ℤ) → pos 1 ≤ℤ q
        → All (λ a. (neg_ℤ ((pos 2 *ℤ q) *ℤ (w *ℤ pos (rank (whole_set k)))) ≤ℤ a)
        × (a ≤ℤ ((pos 2 *ℤ q) *ℤ (w *ℤ pos (rank (whole_set k)))))) (at_places (q *ℤ w) basis)
    rank-starts_small q hq = greedy_small k q (w *ℤ pos (rank (whole_set k)))
        (λ s. w *ℤ pos (rank s)) (at_places (q *ℤ w) basis) (omega (arith, ints)) small
        (rank-greedy q)

-- q·w at the places of a set is q times w there
pub at_places-times : (q w : ℤ) (s : List Bool)
    → at_places (q *ℤ w) s ≡ map (λ a. q *ℤ a) (at_places (pos 1 *ℤ w) s)
at_places-times q w [] = refl
at_places-times q w (true ∷ s) = ap (λ a. a ∷ at_places (q *ℤ w) s) (times-once q w)
    ∙ ap (λ r. (q *ℤ (pos 1 *ℤ w)) ∷ r) (at_places-times q w s)
at_places-times q w (false ∷ s) = ap (λ a. a ∷ at_places (q *ℤ w) s) (sym (*ℤ-zero q))
    ∙ ap (λ r. (q *ℤ pos 0) ∷ r) (at_places-times q w s)
