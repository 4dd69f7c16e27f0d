-- A number for each place: the sum over a part keeps both laws with equality, and its one base is q
-- times the numbers.
use Rattle.std.proofs.Common.{◌≡◌, ℕ, zero, suc, ◌+◌, ◌<◌, Bool, true, false, List, [], ◌∷◌, length, map, get_or, replicate, ℤ, pos, neg_ℤ, ◌+ℤ◌, ◌-ℤ◌, ◌*ℤ◌, ◌≤ℤ◌, Some, refl, sym, ap, ◌∙◌, arith}
use Rattle.std.specs.List.{All}
use Rattle.std.proofs.Math.IntN.{*ℤ-zero}
use Rattle.std.proofs.lemmas.Int.{ints}
use Rattle.std.proofs.lemmas.List.{length-map, length-replicate, get_or-map}
use Rattle.sfm_spec.specs.Sets.{whole_set, union, intersection, sum_over, magnitudes}
use Rattle.sfm_spec.specs.Terms.{times, first_places, IsBase, IsFamily, IsSubmodular, IsGreedy}
use Rattle.sfm_spec.specs.Kinds.{weight_value}
use Rattle.sfm_spec.proofs.Sums.{sum_over-modular}
use Rattle.sfm_spec.proofs.Scaled.{times-add}
use Rattle.sfm_law.proofs.Greedy.{first_places-front, first_places-more, sum_over-front, greedy_small}
use Rattle.sfm_law.proofs.Multiples.{map-times, times-once}

-- q times each number
abbrev pub scaled : ℤ → List ℤ → List ℤ
scaled q weights = map (λ w. q *ℤ w) weights

pub weight-family : {k : ℕ} (weights : List ℤ) → IsFamily k (weight_value weights)
weight-family weights = record {
  empty = refl;
  whole = refl;
  unions = λ s t h g a b. refl;
  intersections = λ s t h g a b. refl;
}

sum_over-empty : (k : ℕ) (x : List ℤ) → sum_over (replicate k false) x ≡ pos 0
sum_over-empty zero x = refl
sum_over-empty (suc k) [] = refl
sum_over-empty (suc k) (y ∷ x) = let r : sum_over (replicate k false) x ≡ pos 0 = sum_over-empty k
    x in omega (arith, ints, r)

pub weight-submodular : (k : ℕ) (weights : List ℤ) → k ≡ length weights
    → IsSubmodular k (weight_value weights)
weight-submodular k weights same = record {
  at_empty = ap Some (sum_over-empty k weights);
  submodular = λ s t a b c d h g ea eb ec ed.
      let modular = sum_over-modular s t weights (h ∙ sym g) (h ∙ same) in
      let fa : sum_over s weights ≡ a = cc in
      let fb : sum_over t weights ≡ b = cc in
      let fc : sum_over (union s t) weights ≡ c = cc in
      let fd : sum_over (intersection s t) weights ≡ d = cc in
      omega (arith, ints, modular, fa, fb, fc, fd);
}

not_negative : (x : List ℤ) → pos 0 ≤ℤ magnitudes x
not_negative [] = omega (arith, ints)
not_negative (y ∷ x) = let r = not_negative x in omega (arith, ints, r)

-- a sum lies between the sums of the magnitudes
sum_over-small : (s : List Bool) (x : List ℤ) → (neg_ℤ (magnitudes x) ≤ℤ sum_over s x)
    × (sum_over s x ≤ℤ magnitudes x)
sum_over-small [] x = let r = not_negative x in (omega (arith, ints, r), omega (arith, ints, r))
sum_over-small (b ∷ s) [] = (omega (arith, ints), omega (arith, ints))
sum_over-small (true ∷ s) (y ∷ x) =
    let r = sum_over-small s x in (omega (arith, ints, r), omega (arith, ints, r))
sum_over-small (false ∷ s) (y ∷ x) =
    let r = sum_over-small s x in (omega (arith, ints, r), omega (arith, ints, r))

pub weight-bounded : (weights : List ℤ) (s : List Bool) (a : ℤ) → weight_value weights s ≡ Some a
    → (neg_ℤ (magnitudes weights) ≤ℤ a) × (a ≤ℤ magnitudes weights)
weight-bounded weights s a e = let f : sum_over s weights ≡ a = cc in let b = sum_over-small s
    weights in (rw (← f) b.0, rw (← f) b.1)

-- ---- the one base

pub sum_over-scaled : (q : ℤ) (s : List Bool) (x : List ℤ)
    → sum_over s (scaled q x) ≡ (q *ℤ sum_over s x)
sum_over-scaled q [] x = sym (*ℤ-zero q)
sum_over-scaled q (b ∷ s) [] = sym (*ℤ-zero q)
sum_over-scaled q (true ∷ s) (y ∷ x) = ap (λ r. (q *ℤ y) +ℤ r) (sum_over-scaled q s x)
    ∙ sym (times-add q y (sum_over s x))
sum_over-scaled q (false ∷ s) (y ∷ x) =
    let plain : (pos 0 +ℤ sum_over s x) ≡ sum_over s x = omega (arith, ints) in
    let r = sum_over-scaled q s x in
    rw plain (omega (arith, ints, r))

pub scaled_is_base : (q : ℤ) (weights : List ℤ)
    → IsBase (times q (weight_value weights)) (scaled q weights)
scaled_is_base q weights = record {
  within = λ s a h e. let f : (q *ℤ sum_over s weights) ≡ a = cc in let g = sum_over-scaled q s
      weights in omega (arith, ints, ap (λ z. z) f, g);
  total = ap Some (sym (sum_over-scaled q (whole_set (length (scaled q weights))) weights));
}

-- two lists of which one lies below the other over each set, with one sum, are equal
below_is_same : (x y : List ℤ) → length x ≡ length y
    → ((s : List Bool) → length s ≡ length x → sum_over s x ≤ℤ sum_over s y)
    → sum_over (whole_set (length x)) x ≡ sum_over (whole_set (length x)) y → x ≡ y
below_is_same [] [] h below total = refl
below_is_same [] (b ∷ y) h below total = absurd (omega arith)
below_is_same (a ∷ x) [] h below total = absurd (omega arith)
below_is_same (a ∷ x) (b ∷ y) h below total =
    let len : length x ≡ length y = omega arith in
    let first = below (true ∷ replicate (length x) false)
    (omega (arith, length-replicate (length x) false)) in
    let others = below (false ∷ replicate (length x) true)
    (omega (arith, length-replicate (length x) true)) in
    let ex = sum_over-empty (length x) x in
    let ey = sum_over-empty (length x) y in
    let rest : sum_over (whole_set (length x)) x ≡ sum_over (whole_set (length x))
    y = omega (arith, ints, first, others, ex, ey, total) in
    let same : a ≡ b = omega (arith, ints, first, others, ex, ey, total) in
    let tails : (s : List Bool) → length s ≡ length x → sum_over s x ≤ℤ sum_over s y = λ s k.
    let r = below (false ∷ s) (omega arith) in omega (arith, ints, r) in
    let t : x ≡ y = below_is_same x y len tails rest in
    cc

pub base_is_scaled : (q : ℤ) (weights x : List ℤ) → length x ≡ length weights
    → IsBase (times q (weight_value weights)) x → x ≡ scaled q weights
base_is_scaled q weights x h base =
    below_is_same x (scaled q weights) (h ∙ sym (length-map weights (λ w. q *ℤ w)))
    (λ s k. rw (sum_over-scaled q s weights) (base.within s (q *ℤ sum_over s weights) k refl))
    (let e = base.total in let f : (q *ℤ sum_over (whole_set (length x)) weights) ≡ sum_over
    (whole_set (length x)) x = cc in sym f
    ∙ sym (sum_over-scaled q (whole_set (length x)) weights))

-- ---- the start

pub weight-starts : (k : ℕ) (weights : List ℤ) (q : ℤ) → k ≡ length weights
    → (length (scaled q weights) ≡ k) × IsBase (times q (weight_value weights)) (scaled q weights)
weight-starts k weights q same =
    (length-map weights (λ w. q *ℤ w) ∙ sym same, scaled_is_base q weights)

pub weight-greedy : (k : ℕ) (weights : List ℤ) (q : ℤ) → k ≡ length weights
    → IsGreedy q (weight_value weights) k (scaled q weights)
weight-greedy k weights q same = record {
  places = length-map weights (λ w. q *ℤ w) ∙ sym same;
  gains = λ j a b lt ea eb.
      let fa : sum_over (first_places k (j + 1)) weights ≡ a = cc in
      let fb : sum_over (first_places k j) weights ≡ b = cc in
      let sized : j < length weights = omega (arith, same) in
      let more = first_places-more k j lt in
      let here = first_places-front k j (omega arith) in
      let ga = rw more at fa in
      let gb = rw here at fb in
      let step = sum_over-front k j weights (sym same) lt in
      let gain : get_or weights j (pos 0) ≡ (a -ℤ b) = omega (arith, ints, ga, gb, step) in
      get_or-map (λ w. q *ℤ w) weights j (pos 0) (pos 0) sized ∙ ap (λ z. q *ℤ z) gain;
}

pub weight-starts_small : (weights : List ℤ) (q : ℤ) → pos 1 ≤ℤ q
    → All (λ a. (neg_ℤ ((pos 2 *ℤ q) *ℤ magnitudes weights) ≤ℤ a)
    × (a ≤ℤ ((pos 2 *ℤ q) *ℤ magnitudes weights))) (scaled q weights)
weight-starts_small weights q low =
    greedy_small (length weights) q (magnitudes weights) (λ s. sum_over s weights)
    (scaled q weights) (omega (arith, ints)) (λ s ks. sum_over-small s weights)
    (weight-greedy (length weights) weights q refl)

pub weight-starts_times : (q : ℤ) (weights : List ℤ)
    → scaled q weights ≡ map (λ a. q *ℤ a) (scaled (pos 1) weights)
weight-starts_times q weights = map-times q (λ w. q *ℤ w) (λ w. pos 1 *ℤ w) (times-once q) weights
