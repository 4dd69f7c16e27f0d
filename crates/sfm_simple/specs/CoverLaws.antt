-- A number w that counts where a part has a place.
use Rattle.std.proofs.Common.{◌≡◌, ◌≢◌, ℕ, zero, suc, ◌+◌, ◌-◌, ◌<◌, ◌≤◌, Bool, true, false, List, [], ◌∷◌, length, get_or, set, replicate, ℤ, pos, neg_ℤ, ◌+ℤ◌, ◌-ℤ◌, ◌*ℤ◌, ◌≤ℤ◌, Some, nat_eq, if◌then◌else◌, refl, sym, ap, ◌∙◌, arith, ⊎_elim, length-set, get_or-set_other, get_or-set_same, map}
use Rattle.std.specs.List.{All}
use Rattle.std.proofs.Math.IntN.{*ℤ-zero}
use Rattle.std.proofs.lemmas.Bool.{ne_eqb, eq-eqb, cases_eq, cases_lt, false≢true}
use Rattle.std.proofs.lemmas.Int.{ints}
use Rattle.std.proofs.lemmas.List.{length-replicate, get_or-replicate}
use Rattle.sfm_spec.specs.Sets.{Has, IsWithin, empty_set, whole_set, size, sum_over}
use Rattle.sfm_spec.specs.Terms.{times, first_places, IsBase, IsFamily, IsSubmodular, IsGreedy}
use Rattle.sfm_spec.specs.Kinds.{cover_value}
use Rattle.sfm_spec.proofs.Scaled.{times-mono}
use Rattle.sfm_spec.proofs.Sets.{Has-whole}
use Rattle.sfm_spec.proofs.Sizes.{size-empty}
use Rattle.sfm_spec.proofs.Where.{size-cons}
use Rattle.sfm_law.proofs.LocalLaw.{local_law}
use Rattle.sfm_law.proofs.Greedy.{front, first_places-front, first_places-more, greedy_base, greedy_small}
use Rattle.sfm_law.proofs.Monotone.{AreCounts, sum_over-mono, sum_over-without, without}
use Rattle.sfm_law.proofs.Multiples.{times-once, zeros-times}

-- the start: zeros, but q·w at the first place
abbrev pub cover_start : ℤ → ℤ → ℕ → List ℤ
cover_start q w k = set (replicate k (pos 0)) 0 (q *ℤ w)

-- what a base is: no entry negative, and q·w in all
pub record IsCoverBase (q w : ℤ) (x : List ℤ) : Type 0 where
  pub counts : AreCounts x
  pub sum : sum_over (whole_set (length x)) x ≡ (q *ℤ w)

-- ---- sizes

size-low : (s : List Bool) (e : ℕ) → Has s e → 1 ≤ size s
size-low [] e h = absurd (false≢true h)
size-low (true ∷ s) zero h = let c = size-cons true s in omega (arith, c)
size-low (false ∷ s) zero h = absurd (false≢true h)
size-low (b ∷ s) (suc e) h = let c = size-cons b s in let r = size-low s e h in omega (arith, c, r)

sum_over-none : (s : List Bool) (x : List ℤ) → size s ≡ 0 → sum_over s x ≡ pos 0
sum_over-none [] x h = refl
sum_over-none (b ∷ s) [] h = refl
sum_over-none (true ∷ s) (y ∷ x) h = let c = size-cons true s in absurd (omega (arith, c))
sum_over-none (false ∷ s) (y ∷ x) h =
    let c = size-cons false s in let r = sum_over-none s x
    (omega (arith, c)) in omega (arith, ints, r)

-- ---- the value

-- w, and 0 of a part with no place
covered : ℤ → List Bool → ℤ
covered w s = if nat_eq (size s) 0 then pos 0 else w

covered-some : (w : ℤ) (s : List Bool) (e : ℕ) → Has s e → covered w s ≡ w
unfolding covered
covered-some w s e h = let low = size-low s e
    h in rw (ne_eqb (size s) 0 (λ z. absurd (omega (arith, low, z)))) refl

covered-none : (w : ℤ) (s : List Bool) → size s ≡ 0 → covered w s ≡ pos 0
unfolding covered
covered-none w s h = rw (eq-eqb (size s) 0 h) refl

covered-else : (w : ℤ) (s : List Bool) → size s ≢ 0 → covered w s ≡ w
unfolding covered
covered-else w s h = rw (ne_eqb (size s) 0 h) refl

covered-bounds : (w : ℤ) (s : List Bool) → pos 0 ≤ℤ w → (pos 0 ≤ℤ covered w s) × (covered w s ≤ℤ w)
covered-bounds w s low = ⊎_elim
    (λ e. let z = covered-none w s e in (omega (arith, ints, z), omega (arith, ints, z)))
    (λ ne. let z = covered-else w s ne in (omega (arith, ints, z), omega (arith, ints, z)))
    (cases_eq (size s) 0)

pub cover-family : {k : ℕ} (w : ℤ) → IsFamily k (cover_value w)
cover-family w = record {
  empty = refl;
  whole = refl;
  unions = λ s t h g a b. refl;
  intersections = λ s t h g a b. refl;
}

pub cover-submodular : (k : ℕ) (w : ℤ) → pos 0 ≤ℤ w → IsSubmodular k (cover_value w)
unfolding covered
cover-submodular k w low = local_law k (covered w) (covered-none w (empty_set k) (size-empty k))
    (record { pairs = pairs }) where
      pairs : (s : List Bool) (a b : ℕ) → length s ≡ k → a < b → b < k → get_or s a false ≡ false
          → get_or s b false ≡ false
          → (covered w (set (set s a true) b true) +ℤ covered w s)
          ≤ℤ (covered w (set s a true) +ℤ covered w (set s b true))
      pairs s a b ks lt in_range out out' =
          let len = length-set s a true in
          let both = covered-some w (set (set s a true) b true) b
          (get_or-set_same (set s a true) b true false (omega (arith, len))) in
          let one = covered-some w (set s a true) a
          (get_or-set_same s a true false (omega arith)) in
          let other = covered-some w (set s b true) b
          (get_or-set_same s b true false (omega arith)) in
          let high = covered-bounds w s low in
          omega (arith, ints, both, one, other, high.1)

pub cover-bounded : (w : ℤ) (s : List Bool) (a : ℤ) → pos 0 ≤ℤ w → cover_value w s ≡ Some a
    → (neg_ℤ w ≤ℤ a) × (a ≤ℤ w)
unfolding covered
cover-bounded w s a low e =
    let f : covered w s ≡ a = cc in
    let b = covered-bounds w s low in
    rw (← f) (omega (arith, ints, b.0), b.1)

-- ---- the bases

pub cover_base : (q w : ℤ) (x : List ℤ) → 0 < length x → IsCoverBase q w x
    → IsBase (times q (cover_value w)) x
unfolding covered
cover_base q w x some h = record { within = within; total = total } where
  at_some : (s : List Bool) (e : ℕ) → Has s e → (q *ℤ covered w s) ≡ (q *ℤ w)
  at_some s e hs = ap (λ a. q *ℤ a) (covered-some w s e hs)

  total : times q (cover_value w) (whole_set (length x)) ≡ Some (sum_over (whole_set (length x)) x)
  total = ap Some (at_some (whole_set (length x)) 0 (Has-whole (length x) 0 some) ∙ sym h.sum)

  inside : (s : List Bool) → length s ≡ length x → IsWithin s (whole_set (length x))
  inside s same e hs = ⊎_elim (λ (lt : e < length x). Has-whole (length x) e lt)
      (λ (ge : length x ≤ e). absurd (past s e (omega (arith, same)) hs))
      (cases_lt e (length x)) where
        past : (s : List Bool) (e : ℕ) → length s ≤ e → Has s e → ⊥
        past [] e ge hs = false≢true hs
        past (b ∷ s) zero ge hs = omega arith
        past (b ∷ s) (suc e) ge hs = past s e (omega arith) hs

  within : (s : List Bool) (a : ℤ) → length s ≡ length x → times q (cover_value w) s ≡ Some a
      → sum_over s x ≤ℤ a
  within s a same e = let f : (q *ℤ covered w s) ≡ a = cc in rw (← f)
      (⊎_elim none met (cases_eq (size s) 0)) where
        none : size s ≡ 0 → sum_over s x ≤ℤ (q *ℤ covered w s)
        none z = let c = ap (λ a. q *ℤ a) (covered-none w s z) in let n = *ℤ-zero
            q in let o = sum_over-none s x z in omega (arith, ints, c, n, o)

        met : size s ≢ 0 → sum_over s x ≤ℤ (q *ℤ covered w s)
        met ne =
            let c = ap (λ a. q *ℤ a) (covered-else w s ne) in
            let m = sum_over-mono s (whole_set (length x)) x h.counts
            (same ∙ sym (length-replicate (length x) true)) (inside s same) in
            let t = h.sum in
            omega (arith, ints, c, m, t)

pub cover_base_back : (q w : ℤ) (x : List ℤ) → pos 1 ≤ℤ q → pos 0 ≤ℤ w → 0 < length x
    → IsBase (times q (cover_value w)) x → IsCoverBase q w x
unfolding covered
cover_base_back q w x hq hw some base = record { counts = counts; sum = sum } where
  sum : sum_over (whole_set (length x)) x ≡ (q *ℤ w)
  sum =
      let f : (q *ℤ covered w (whole_set (length x))) ≡ sum_over (whole_set (length x))
      x = (let e = base.total in cc) in
      sym f ∙ ap (λ a. q *ℤ a) (covered-some w (whole_set (length x)) 0
      (Has-whole (length x) 0 some))

  counts : AreCounts x
  counts e lt =
      let rest = base.within (without (length x) e) (q *ℤ covered w (without (length x) e))
      (length-set (whole_set (length x)) e false ∙ length-replicate (length x) true) refl in
      let high = times-mono q (covered w (without (length x) e)) w (omega (arith, ints))
      (covered-bounds w (without (length x) e) hw).1 in
      let all = sum in
      let parts = sum_over-without (length x) e x refl lt in
      omega (arith, ints, rest, high, all, parts)

-- ---- the start

pub cover-greedy : (k : ℕ) (q w : ℤ) → 0 < k → IsGreedy q (cover_value w) k (cover_start q w k)
unfolding covered
cover-greedy k q w some = record {
  places = length-set (replicate k (pos 0)) 0 (q *ℤ w)
      ∙ length-replicate k (pos 0);
  gains = gains;
} where
  grown : (j : ℕ) → j < k → covered w (front k (suc j)) ≡ w
  grown j lt = covered-some w (front k (suc j)) 0 (head k j lt) where
    head : (k j : ℕ) → j < k → Has (front k (suc j)) 0
    head zero j lt = absurd (omega arith)
    head (suc k) j lt = refl

  gains : (j : ℕ) (a b : ℤ) → j < k → cover_value w (first_places k (j + 1)) ≡ Some a
      → cover_value w (first_places k j) ≡ Some b
      → get_or (cover_start q w k) j (pos 0) ≡ (q *ℤ (a -ℤ b))
  gains zero a b lt ea eb =
      let fa : covered w (first_places k 1) ≡ a = cc in
      let fb : covered w (first_places k 0) ≡ b = cc in
      let ga = rw (first_places-more k 0 lt) at fa in
      let one = grown 0 lt in
      let z = covered-none w (empty_set k) (size-empty k) in
      let e : first_places k 0 ≡ empty_set k = (let n : k - 0 ≡ k = omega arith in rw n refl) in
      let gb = rw e at fb in
      let d : (a -ℤ b) ≡ w = omega (arith, ints, ga, gb, one, z) in
      let len : 0 < length (replicate k (pos 0)) = omega (arith, length-replicate k (pos 0)) in
      rw d (get_or-set_same (replicate k (pos 0)) 0 (q *ℤ w) (pos 0) len)
  gains (suc j) a b lt ea eb =
      let fa : covered w (first_places k (suc j + 1)) ≡ a = cc in
      let fb : covered w (first_places k (suc j)) ≡ b = cc in
      let ga = rw (first_places-more k (suc j) lt) at fa in
      let gb = rw (first_places-front k (suc j) (omega arith)) at fb in
      let one = grown (suc j) lt in
      let other = grown j (omega arith) in
      let d : (a -ℤ b) ≡ pos 0 = omega (arith, ints, ga, gb, one, other) in
      rw (d, *ℤ-zero q) (get_or-set_other (replicate k (pos 0)) 0 (suc j) (q *ℤ w) (pos 0)
      (λ e. absurd (omega (arith, e))) ∙ get_or-replicate k (suc j) (pos 0) (pos 0) lt)

pub cover-starts : (k : ℕ) (q w : ℤ) → 0 < k → pos 1 ≤ℤ q → pos 0 ≤ℤ w
    → (length (cover_start q w k) ≡ k) × IsBase (times q (cover_value w)) (cover_start q w k)
unfolding covered
cover-starts k q w some hq hw =
    let greedy = cover-greedy k q w some in (
      greedy.places,
      greedy_base k q (covered w) (cover_start q w k) (omega (arith, ints))
          (cover-submodular k w hw) greedy,
    )

pub cover-starts_small : (k : ℕ) (q w : ℤ) → 0 < k → pos 1 ≤ℤ q → pos 0 ≤ℤ w
    → All (λ a. (neg_ℤ ((pos 2 *ℤ q) *ℤ w) ≤ℤ a) × (a ≤ℤ ((pos 2 *ℤ q) *ℤ w))) (cover_start q w k)
unfolding covered
cover-starts_small k q w some hq hw =
    greedy_small k q w (covered w) (cover_start q w k) (omega (arith, ints))
    (λ s ks. cover-bounded w s _ hw refl) (cover-greedy k q w some)

pub cover-starts_times : (k : ℕ) (q w : ℤ)
    → cover_start q w k ≡ map (λ a. q *ℤ a) (cover_start (pos 1) w k)
cover-starts_times zero q w = refl
cover-starts_times (suc k) q w = ap (λ a. a ∷ replicate k (pos 0)) (times-once q w)
    ∙ ap (λ r. (q *ℤ (pos 1 *ℤ w)) ∷ r) (zeros-times q k)
