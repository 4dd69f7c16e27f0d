-- A number c that counts where a part has the first of two places and not the second.
use Rattle.std.proofs.Common.{◌≡◌, ℕ, zero, suc, ◌+◌, ◌<◌, Bool, true, false, not, ◌&&◌, ◌||◌, List, [], ◌∷◌, length, get_or, ℤ, pos, neg_ℤ, ◌+ℤ◌, ◌-ℤ◌, ◌*ℤ◌, ◌≤ℤ◌, Some, if◌then◌else◌, refl, sym, ap, ◌∙◌, arith, map}
use Rattle.std.specs.List.{All}
use Rattle.std.proofs.Math.IntN.{*ℤ-zero}
use Rattle.std.proofs.lemmas.Int.{ints}
use Rattle.sfm_spec.specs.Sets.{union, intersection, sum_over}
use Rattle.sfm_spec.specs.Terms.{times, first_places, IsBase, IsFamily, IsSubmodular, IsGreedy}
use Rattle.sfm_spec.specs.Kinds.{cut_value}
use Rattle.sfm_spec.proofs.Sets.{get_or-union, get_or-intersection}
use Rattle.sfm_law.proofs.Greedy.{greedy_small}
use Rattle.sfm_spec.proofs.Scaled.{times-mono, times-neg}
use Rattle.sfm_law.proofs.Multiples.{times-once}

-- the start: all of q·c moved from the second place to the first
abbrev pub cut_start : ℤ → ℤ → List ℤ
cut_start q c = (q *ℤ c) ∷ neg_ℤ (q *ℤ c) ∷ []

-- c where there is the first and not the second
counted : ℤ → Bool → Bool → ℤ
counted c a b = if a && not b then c else pos 0

pub cut-family : {k : ℕ} (c : ℤ) → IsFamily k (cut_value c)
cut-family c = record {
  empty = refl;
  whole = refl;
  unions = λ s t h g a b. refl;
  intersections = λ s t h g a b. refl;
}

four : (c : ℤ) → pos 0 ≤ℤ c → (a b d e : Bool)
    → (counted c (a || d) (b || e) +ℤ counted c (a && d) (b && e))
    ≤ℤ (counted c a b +ℤ counted c d e)
unfolding counted
four c low true true true true = omega (arith, ints)
four c low true true true false = omega (arith, ints)
four c low true true false true = omega (arith, ints)
four c low true true false false = omega (arith, ints)
four c low true false true true = omega (arith, ints)
four c low true false true false = omega (arith, ints)
four c low true false false true = omega (arith, ints)
four c low true false false false = omega (arith, ints)
four c low false true true true = omega (arith, ints)
four c low false true true false = omega (arith, ints)
four c low false true false true = omega (arith, ints)
four c low false true false false = omega (arith, ints)
four c low false false true true = omega (arith, ints)
four c low false false true false = omega (arith, ints)
four c low false false false true = omega (arith, ints)
four c low false false false false = omega (arith, ints)

pub cut-submodular : (k : ℕ) (c : ℤ) → k ≡ 2 → pos 0 ≤ℤ c → IsSubmodular k (cut_value c)
unfolding counted
cut-submodular k c two low = record {
  at_empty = rw two refl;
  submodular = λ s t a b d e hs ht ea eb ed ee.
      let same : length s ≡ length t = hs ∙ sym ht in
      let less = four c low (get_or s 0 false) (get_or s 1 false) (get_or t 0 false)
      (get_or t 1 false) in
      let fa : counted c (get_or s 0 false) (get_or s 1 false) ≡ a = cc in
      let fb : counted c (get_or t 0 false) (get_or t 1 false) ≡ b = cc in
      let fd : counted c (get_or (union s t) 0 false) (get_or (union s t) 1 false) ≡ d = cc in
      let fe : counted c (get_or (intersection s t) 0 false) (get_or (intersection s t) 1 false)
      ≡ e = cc in
      let u0 = get_or-union s t 0 same in
      let u1 = get_or-union s t 1 same in
      let i0 = get_or-intersection s t 0 same in
      let i1 = get_or-intersection s t 1 same in
      let gd = rw (u0, u1) at fd in
      let ge = rw (i0, i1) at fe in
      rw (← fa, ← fb, ← gd, ← ge) less;
}

pub cut-bounded : (c : ℤ) (s : List Bool) (a : ℤ) → pos 0 ≤ℤ c → cut_value c s ≡ Some a
    → (neg_ℤ c ≤ℤ a) × (a ≤ℤ c)
unfolding counted
cut-bounded c s a low e = let f : counted c (get_or s 0 false)
    (get_or s 1 false) ≡ a = cc in rw (← f) (at (get_or s 0 false) (get_or s 1 false)) where
      at : (d e : Bool) → (neg_ℤ c ≤ℤ counted c d e) × (counted c d e ≤ℤ c)
      at true true = (omega (arith, ints), omega (arith, ints))
      at true false = (omega (arith, ints), omega (arith, ints))
      at false e = (omega (arith, ints), omega (arith, ints))

-- t at the first and -t at the second, t from 0 to q·c
pub cut_base : (q c : ℤ) (x : List ℤ) → length x ≡ 2 → pos 0 ≤ℤ get_or x 0 (pos 0)
    → get_or x 0 (pos 0) ≤ℤ (q *ℤ c) → (get_or x 0 (pos 0) +ℤ get_or x 1 (pos 0)) ≡ pos 0
    → IsBase (times q (cut_value c)) x
cut_base q c [] two low high sum = absurd (omega arith)
cut_base q c (a ∷ []) two low high sum = absurd (omega arith)
cut_base q c (a ∷ b ∷ d ∷ x) two low high sum = absurd (omega arith)
cut_base q c (a ∷ b ∷ []) two low high sum =
    record { within = within; total = ap Some (*ℤ-zero q ∙ sym whole) } where
      whole : sum_over (true ∷ true ∷ []) (a ∷ b ∷ []) ≡ pos 0
      whole = omega (arith, ints)

      within : (s : List Bool) (d : ℤ) → length s ≡ length (a ∷ b ∷ [])
          → times q (cut_value c) s ≡ Some d → sum_over s (a ∷ b ∷ []) ≤ℤ d
      within [] d h e = absurd (omega arith)
      within (u ∷ []) d h e = absurd (omega arith)
      within (u ∷ v ∷ w ∷ s) d h e = absurd (omega arith)
      within (true ∷ false ∷ []) d h e =
          let f : (q *ℤ c) ≡ d = cc in rw (← f) (omega (arith, ints, high))
      within (true ∷ true ∷ []) d h e =
          let f : (q *ℤ pos 0) ≡ d = cc in let g = *ℤ-zero q in omega (arith, ints, f, g)
      within (false ∷ true ∷ []) d h e =
          let f : (q *ℤ pos 0) ≡ d = cc in let g = *ℤ-zero q in omega (arith, ints, f, g)
      within (false ∷ false ∷ []) d h e =
          let f : (q *ℤ pos 0) ≡ d = cc in let g = *ℤ-zero q in omega (arith, ints, f, g)

-- what a base is: its first entry from 0 to q·c, and the second its opposite
pub record IsCutBase (q c : ℤ) (x : List ℤ) : Type 0 where
  pub low : pos 0 ≤ℤ get_or x 0 (pos 0)
  pub high : get_or x 0 (pos 0) ≤ℤ (q *ℤ c)
  pub sum : (get_or x 0 (pos 0) +ℤ get_or x 1 (pos 0)) ≡ pos 0

pub cut_base_back : (q c : ℤ) (x : List ℤ) → length x ≡ 2 → IsBase (times q (cut_value c)) x
    → IsCutBase q c x
cut_base_back q c [] two base = absurd (omega arith)
cut_base_back q c (a ∷ []) two base = absurd (omega arith)
cut_base_back q c (a ∷ b ∷ d ∷ x) two base = absurd (omega arith)
cut_base_back q c (a ∷ b ∷ []) two base =
    let first = base.within (true ∷ false ∷ []) (q *ℤ c) refl refl in
    let second = base.within (false ∷ true ∷ []) (q *ℤ pos 0) refl refl in
    let e = base.total in
    let f : (q *ℤ pos 0) ≡ sum_over (true ∷ true ∷ []) (a ∷ b ∷ []) = cc in
    let g = *ℤ-zero q in
    record {
      low = omega (arith, ints, second, f, g);
      high = omega (arith, ints, first);
      sum = omega (arith, ints, f, g);
    }

pub product_not_negative : (q c : ℤ) → pos 1 ≤ℤ q → pos 0 ≤ℤ c → pos 0 ≤ℤ (q *ℤ c)
product_not_negative q c hq hc =
    let m = times-mono q (pos 0) c (omega (arith, ints)) hc in let z = *ℤ-zero
    q in omega (arith, ints, m, z)

pub cut-starts : (k : ℕ) (q c : ℤ) → k ≡ 2 → pos 1 ≤ℤ q → pos 0 ≤ℤ c → (2 ≡ k)
    × IsBase (times q (cut_value c)) (cut_start q c)
cut-starts k q c two hq hc = let n = product_not_negative q c hq
    hc in (sym two, cut_base q c (cut_start q c) refl n (omega (arith, ints)) (omega (arith, ints)))

pub cut-greedy : (k : ℕ) (q c : ℤ) → k ≡ 2 → IsGreedy q (cut_value c) k (cut_start q c)
cut-greedy k q c two = rw two (record { places = refl; gains = gains }) where
  gains : (j : ℕ) (a b : ℤ) → j < 2 → cut_value c (first_places 2 (j + 1)) ≡ Some a
      → cut_value c (first_places 2 j) ≡ Some b → get_or (cut_start q c) j (pos 0) ≡ (q *ℤ (a -ℤ b))
  gains zero a b lt ea eb = let fa : c ≡ a = cc in let fb : pos
      0 ≡ b = cc in let z : (a -ℤ b) ≡ c = omega (arith, ints, fa, fb) in rw z refl
  gains (suc zero) a b lt ea eb =
      let fa : pos 0 ≡ a = cc in let fb : c ≡ b = cc in let z : (a -ℤ b) ≡ neg_ℤ
      c = omega (arith, ints, fa, fb) in rw z (sym (times-neg q c))
  gains (suc (suc j)) a b lt ea eb = absurd (omega arith)

pub cut-starts_small : (q c : ℤ) → pos 1 ≤ℤ q → pos 0 ≤ℤ c
    → All (λ a. (neg_ℤ ((pos 2 *ℤ q) *ℤ c) ≤ℤ a) × (a ≤ℤ ((pos 2 *ℤ q) *ℤ c))) (cut_start q c)
unfolding counted
cut-starts_small q c hq hc = greedy_small 2 q c
    (λ s. counted c (get_or s 0 false) (get_or s 1 false)) (cut_start q c) (omega (arith, ints))
    (λ s ks. cut-bounded c s _ hc refl) (cut-greedy 2 q c refl)

pub cut-starts_times : (q c : ℤ) → cut_start q c ≡ map (λ a. q *ℤ a) (cut_start (pos 1) c)
cut-starts_times q c = ap (λ a. a ∷ neg_ℤ a ∷ []) (times-once q c)
    ∙ ap (λ a. (q *ℤ (pos 1 *ℤ c)) ∷ a ∷ []) (sym (times-neg q (pos 1 *ℤ c)))
