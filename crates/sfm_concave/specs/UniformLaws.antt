-- A number w times the count of a part, up to a cap: the weighted rank of a uniform matroid.
-- Textbook: Schrijver, Combinatorial Optimization, sections 39 and 44.
use Rattle.std.proofs.Common.{◌≡◌, ℕ, suc, ◌≤◌, List, length, map, get_or, ℤ, pos, neg_ℤ, ◌+ℤ◌, ◌-ℤ◌, ◌*ℤ◌, ◌≤ℤ◌, Bool, true, false, Some, refl, ap, ◌∙◌, arith, if◌then◌else◌, ⊎_elim, sym}
use Rattle.std.specs.List.{All, range_with_len}
use Rattle.std.specs.Int.{int_min}
use Rattle.std.specs.Int.Signed.{lt_z}
use Rattle.std.proofs.Math.IntN.{*ℤ-zero}
use Rattle.std.proofs.lemmas.Bool.{cases_Bool}
use Rattle.std.proofs.lemmas.Int.{ints, clamps}
use Rattle.std.proofs.lemmas.List.FromFn.{length-map-range_with_len, get_or-map-range_with_len}
use Rattle.sfm_spec.specs.Sets.{size}
use Rattle.sfm_spec.specs.Terms.{times, IsBase, IsFamily, IsSubmodular, IsGreedy}
use Rattle.sfm_spec.specs.Kinds.{uniform_value}
use Rattle.sfm_spec.proofs.Scaled.{times-mono, times-add}
use Rattle.sfm_spec.proofs.Sizes.{size_below_length}
use Rattle.sfm_law.proofs.Greedy.{greedy_base, greedy_small}
use Rattle.sfm_concave.specs.Counts.{IsFalling, falling-times, counted, counted-family, counted-submodular, counted-greedy}
use Rattle.sfm_law.proofs.Multiples.{map-times, times-once}

-- how many of a count are independent together
abbrev pub rank_of : ℤ → ℕ → ℤ
rank_of cap c = int_min (pos c) cap

-- the greatest value: that of all places
abbrev pub uniform_size : ℤ → ℤ → ℕ → ℤ
uniform_size w cap k = w *ℤ rank_of cap k

-- the entry of the start at j: q·w as long as the count is below the cap
abbrev pub uniform_gain : ℤ → ℤ → ℤ → ℕ → ℤ
uniform_gain q w cap j = if lt_z (pos j) cap then q *ℤ w else pos 0

abbrev pub uniform_start : ℤ → ℤ → ℤ → ℕ → List ℤ
uniform_start q w cap k = map (λ j. uniform_gain q w cap j) (range_with_len 0 k)

-- what v has, or what u lacks of q·w where that is less
abbrev pub IsUniformRoom : ℤ → ℤ → List ℤ → ℕ → ℕ → ℤ → Type 0
IsUniformRoom q w x u v a = a ≡ int_min (get_or x v (pos 0)) ((q *ℤ w) -ℤ get_or x u (pos 0))

-- ---- the law

rank-falling : (k : ℕ) (cap : ℤ) → pos 0 ≤ℤ cap → IsFalling k (rank_of cap)
rank-falling k cap low = record {
  none = omega (arith, ints, clamps, low);
  falls = λ c lt. omega (arith, ints, clamps, low);
}

pub uniform-falling : (k : ℕ) (w cap : ℤ) → pos 0 ≤ℤ w → pos 0 ≤ℤ cap
    → IsFalling k (λ c. w *ℤ rank_of cap c)
uniform-falling k w cap hw hc = falling-times k w (rank_of cap) hw (rank-falling k cap hc)

pub uniform-family : {k : ℕ} (w cap : ℤ) → IsFamily k (uniform_value w cap)
uniform-family w cap = counted-family (λ c. w *ℤ rank_of cap c)

pub uniform-submodular : (k : ℕ) (w cap : ℤ) → pos 0 ≤ℤ w → pos 0 ≤ℤ cap
    → IsSubmodular k (uniform_value w cap)
uniform-submodular k w cap hw hc =
    counted-submodular k (λ c. w *ℤ rank_of cap c) (uniform-falling k w cap hw hc)

-- ---- the size

uniform-small : (k : ℕ) (w cap : ℤ) (c : ℕ) → pos 0 ≤ℤ w → pos 0 ≤ℤ cap → c ≤ k
    → (neg_ℤ (uniform_size w cap k) ≤ℤ (w *ℤ rank_of cap c))
    × ((w *ℤ rank_of cap c) ≤ℤ uniform_size w cap k)
uniform-small k w cap c hw hc le =
    let up = times-mono w (rank_of cap c) (rank_of cap k) hw (omega (arith, ints, clamps, le)) in
    let low = times-mono w (pos 0) (rank_of cap c) hw (omega (arith, ints, clamps, hc)) in
    let z = *ℤ-zero w in
    (omega (arith, ints, up, low, z), up)

pub uniform-bounded : (k : ℕ) (w cap : ℤ) (s : List Bool) (a : ℤ) → pos 0 ≤ℤ w → pos 0 ≤ℤ cap
    → length s ≡ k → uniform_value w cap s ≡ Some a → (neg_ℤ (uniform_size w cap k) ≤ℤ a)
    × (a ≤ℤ uniform_size w cap k)
uniform-bounded k w cap s a hw hc ks e =
    let f : (w *ℤ rank_of cap (size s)) ≡ a = cc in
    let few = size_below_length s in
    rw (← f) (uniform-small k w cap (size s) hw hc (omega (arith, few, ks)))

-- ---- the start

gain-is : (q w cap : ℤ) (j : ℕ) → pos 0 ≤ℤ cap
    → uniform_gain q w cap j ≡ (q *ℤ ((w *ℤ rank_of cap (suc j)) -ℤ (w *ℤ rank_of cap j)))
gain-is q w cap j hc = ⊎_elim under past (cases_Bool (lt_z (pos j) cap)) where
  under : lt_z (pos j) cap ≡ true
      → uniform_gain q w cap j ≡ (q *ℤ ((w *ℤ rank_of cap (suc j)) -ℤ (w *ℤ rank_of cap j)))
  under t =
      let one : rank_of cap (suc j) ≡ (rank_of cap j +ℤ pos 1) = omega (arith, ints, clamps, t) in
      let parts = ap (λ a. w *ℤ a) one ∙ times-add w (rank_of cap j) (pos 1) in
      let d : ((w *ℤ rank_of cap (suc j)) -ℤ (w *ℤ rank_of cap j))
      ≡ w = omega (arith, ints, parts) in
      rw (t, d) refl

  past : lt_z (pos j) cap ≡ false
      → uniform_gain q w cap j ≡ (q *ℤ ((w *ℤ rank_of cap (suc j)) -ℤ (w *ℤ rank_of cap j)))
  past t =
      let same : rank_of cap (suc j) ≡ rank_of cap j = omega (arith, ints, clamps, t) in
      let parts = ap (λ a. w *ℤ a) same in
      let d : ((w *ℤ rank_of cap (suc j)) -ℤ (w *ℤ rank_of cap j)) ≡ pos
      0 = omega (arith, ints, parts) in
      rw (t, d, *ℤ-zero q) refl

pub uniform-greedy : (k : ℕ) (q w cap : ℤ) → pos 0 ≤ℤ cap
    → IsGreedy q (uniform_value w cap) k (uniform_start q w cap k)
uniform-greedy k q w cap hc = counted-greedy k q (λ c. w *ℤ rank_of cap c) (uniform_start q w cap k)
    (length-map-range_with_len (λ j. uniform_gain q w cap j) 0 k)
    (λ j lt. get_or-map-range_with_len (λ i. uniform_gain q w cap i) 0 k j j (pos 0) lt
    (omega arith) ∙ gain-is q w cap j hc)

pub uniform-starts : (k : ℕ) (q w cap : ℤ) → pos 1 ≤ℤ q → pos 0 ≤ℤ w → pos 0 ≤ℤ cap
    → (length (uniform_start q w cap k) ≡ k)
    × IsBase (times q (uniform_value w cap)) (uniform_start q w cap k)
uniform-starts k q w cap low hw hc =
    let greedy = uniform-greedy k q w cap hc in (
      greedy.places,
      greedy_base k q (counted (λ c. w *ℤ rank_of cap c)) (uniform_start q w cap k)
          (omega (arith, ints)) (uniform-submodular k w cap hw hc) greedy,
    )

pub uniform-starts_small : (k : ℕ) (q w cap : ℤ) → pos 1 ≤ℤ q → pos 0 ≤ℤ w → pos 0 ≤ℤ cap
    → All (λ a. (neg_ℤ ((pos 2 *ℤ q) *ℤ uniform_size w cap k) ≤ℤ a)
    × (a ≤ℤ ((pos 2 *ℤ q) *ℤ uniform_size w cap k))) (uniform_start q w cap k)
uniform-starts_small k q w cap low hw hc =
    greedy_small k q (uniform_size w cap k) (counted (λ c. w *ℤ rank_of cap c))
    (uniform_start q w cap k) (omega (arith, ints))
    (λ s ks. let few = size_below_length s in uniform-small k w cap (size s) hw hc
    (omega (arith, few, ks))) (uniform-greedy k q w cap hc)

pub uniform-starts_times : (k : ℕ) (q w cap : ℤ)
    → uniform_start q w cap k ≡ map (λ a. q *ℤ a) (uniform_start (pos 1) w cap k)
uniform-starts_times k q w cap =
    map-times q (λ j. uniform_gain q w cap j) (λ j. uniform_gain (pos 1) w cap j)
    (λ j. at (lt_z (pos j) cap)) (range_with_len 0 k) where
      at : (b : Bool) → (if b then q *ℤ w else pos 0) ≡ (q *ℤ (if b then pos 1 *ℤ w else pos 0))
      at true = times-once q w
      at false = sym (*ℤ-zero q)
