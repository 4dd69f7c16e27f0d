-- The greedy vector of a submodular function: each place gets what it adds to those before it. It
-- is a base, and its entries are small. Textbook: Schrijver, Combinatorial Optimization, section 44
-- (the greedy algorithm for polymatroids).
use Rattle.std.proofs.Common.{◌≡◌, ℕ, zero, suc, ◌+◌, ◌-◌, ◌<◌, ◌≤◌, Bool, true, false, List, [], ◌∷◌, length, get_or, ℤ, pos, negsuc, neg_ℤ, ◌+ℤ◌, ◌-ℤ◌, ◌*ℤ◌, ◌≤ℤ◌, Some, refl, sym, ap, ◌∙◌, arith}
use Rattle.std.proofs.lemmas.Int.{ints}
use Rattle.std.proofs.lemmas.List.{get_or_default}
use Rattle.std.proofs.Math.IntN.{*ℤ-zero}
use Rattle.std.specs.List.{All}
use Rattle.sfm_spec.specs.Sets.{empty_set, whole_set, union, intersection, sum_over}
use Rattle.sfm_spec.specs.Terms.{times, first_places, IsBase, IsSubmodular, IsGreedy}
use Rattle.sfm_spec.proofs.Scaled.{times-mono, times-neg, times-sub, submodular-times}
use Rattle.sfm_law.proofs.LocalLaw.{on_all}

-- the first j of k places, place by place
abbrev pub front : ℕ → ℕ → List Bool
front zero j = []
front (suc k) zero = false ∷ front k zero
front (suc k) (suc j) = true ∷ front k j

pub length-front : (k j : ℕ) → length (front k j) ≡ k
length-front zero j = refl
length-front (suc k) zero = let r : length (front k zero) ≡ k = length-front k
    zero in omega (arith, r)
length-front (suc k) (suc j) = let r : length (front k j) ≡ k = length-front k j in omega (arith, r)

pub front-none : (k : ℕ) → front k zero ≡ empty_set k
front-none zero = refl
front-none (suc k) = ap (λ s. false ∷ s) (front-none k)

pub front-all : (k : ℕ) → front k k ≡ whole_set k
front-all zero = refl
front-all (suc k) = ap (λ s. true ∷ s) (front-all k)

pub first_places-front : (k j : ℕ) → j ≤ k → first_places k j ≡ front k j
first_places-front zero zero h = refl
first_places-front zero (suc j) h = absurd (omega arith)
first_places-front (suc k) zero h =
    let e : suc k - 0 ≡ suc k = omega arith in rw e (ap (λ s. false ∷ s) (sym (front-none k)))
first_places-front (suc k) (suc j) h =
    let e : suc k - suc j ≡ k - j = omega arith in rw e
    (ap (λ s. true ∷ s) (first_places-front k j (omega arith)))

pub first_places-more : (k j : ℕ) → j < k → first_places k (j + 1) ≡ front k (suc j)
first_places-more k j h = let e : j + 1 ≡ suc j = omega arith in rw e
    (first_places-front k (suc j) (omega arith))

-- one place more
pub sum_over-front : (k j : ℕ) (x : List ℤ) → length x ≡ k → j < k
    → sum_over (front k (suc j)) x ≡ (sum_over (front k j) x +ℤ get_or x j (pos 0))
sum_over-front zero j x sized h = absurd (omega arith)
sum_over-front (suc k) j [] sized h = absurd (omega arith)
sum_over-front (suc k) zero (y ∷ x) sized h = omega (arith, ints)
sum_over-front (suc k) (suc j) (y ∷ x) sized h =
    let r : sum_over (front k (suc j))
    x ≡ (sum_over (front k j) x +ℤ get_or x j (pos 0)) =
    sum_over-front k j x (omega arith) (omega arith) in
    omega (arith, ints, r)

-- ---- the greedy vector is a base

union-none : (k : ℕ) (s : List Bool) → length s ≡ k → union (front k zero) s ≡ s
union-none zero [] h = refl
union-none zero (b ∷ s) h = absurd (omega arith)
union-none (suc k) [] h = absurd (omega arith)
union-none (suc k) (b ∷ s) h = ap (λ r. b ∷ r) (union-none k s (omega arith))

intersection-none : (k : ℕ) (s : List Bool) → length s ≡ k
    → intersection (front k zero) s ≡ front k zero
intersection-none zero [] h = refl
intersection-none zero (b ∷ s) h = absurd (omega arith)
intersection-none (suc k) [] h = absurd (omega arith)
intersection-none (suc k) (b ∷ s) h = ap (λ r. false ∷ r) (intersection-none k s (omega arith))

-- what each place adds to those before it
abbrev Gains : ℕ → (List Bool → ℤ) → List ℤ → Type 0
Gains k g x = (j : ℕ) → j < k → get_or x j (pos 0) ≡ (g (front k (suc j)) -ℤ g (front k j))

abbrev IsLawful : ℕ → (List Bool → ℤ) → Type 0
IsLawful k g = (s t : List Bool) → length s ≡ k → length t ≡ k
    → (g (union s t) +ℤ g (intersection s t)) ≤ℤ (g s +ℤ g t)

greedy_total : (k : ℕ) (g : List Bool → ℤ) (x : List ℤ) → length x ≡ k → Gains k g x
    → sum_over (whole_set k) x ≡ (g (front k k) -ℤ g (front k zero))
greedy_total zero g x sized gains = omega (arith, ints)
greedy_total (suc k) g [] sized gains = absurd (omega arith)
greedy_total (suc k) g (y ∷ x) sized gains =
    let r = greedy_total k (λ s. g (true ∷ s)) x (omega arith)
    (λ j lt. gains (suc j) (omega arith)) in
    let first = gains 0 (omega arith) in
    omega (arith, ints, r, first)

greedy_within : (k : ℕ) (g : List Bool → ℤ) → IsLawful k g → (x : List ℤ) → length x ≡ k
    → Gains k g x → (s : List Bool) → length s ≡ k → sum_over s x ≤ℤ (g s -ℤ g (front k zero))
greedy_within zero g law x sized gains [] h = omega (arith, ints)
greedy_within zero g law x sized gains (b ∷ s) h = absurd (omega arith)
greedy_within (suc k) g law [] sized gains s h = absurd (omega arith)
greedy_within (suc k) g law (y ∷ x) sized gains [] h = absurd (omega arith)
greedy_within (suc k) g law (y ∷ x) sized gains (b ∷ s) h =
    at (greedy_within k (λ r. g (true ∷ r))
    (λ r t kr kt. law (true ∷ r) (true ∷ t) (omega arith) (omega arith)) x (omega arith)
    (λ j lt. gains (suc j) (omega arith)) s (omega arith)) b where
      at : sum_over s x ≤ℤ (g (true ∷ s) -ℤ g (true ∷ front k zero)) → (b : Bool)
          → sum_over (b ∷ s) (y ∷ x) ≤ℤ (g (b ∷ s) -ℤ g (front (suc k) zero))
      at r true = let first = gains 0 (omega arith) in omega (arith, ints, r, first)
      at r false =
          let ks : length s ≡ k = omega arith in
          let kf = length-front k zero in
          let two = law (true ∷ front k zero) (false ∷ s) (omega (arith, kf)) (omega arith) in
          let plain = rw (union-none k s ks, intersection-none k s ks) at two in
          omega (arith, ints, r, plain)

pub greedy_base : (k : ℕ) (q : ℤ) (g : List Bool → ℤ) (x : List ℤ) → pos 0 ≤ℤ q
    → IsSubmodular k (on_all g) → IsGreedy q (on_all g) k x → IsBase (times q (on_all g)) x
greedy_base k q g x low law greedy = record {
  within = λ s a h e.
      let r = greedy_within k (λ s. q *ℤ g s) lawful x greedy.places gains s (h ∙ greedy.places) in
      let n = none in
      let f : (q *ℤ g s) ≡ a = cc in
      rw (← f) (omega (arith, ints, r, n));
  total =
      let r = greedy_total k (λ s. q *ℤ g s) x greedy.places gains in
      let n = none in
      let all = ap (λ s. q *ℤ g s) (front-all k) in
      let e : (q *ℤ g (whole_set k)) ≡ sum_over (whole_set k) x = omega (arith, ints, r, n, all) in
      rw greedy.places (ap Some e);
} where
  lawful : IsLawful k (λ s. q *ℤ g s)
  lawful s t ks kt = (submodular-times k q (on_all g) low law).submodular s t (q *ℤ g s) (q *ℤ g t)
      (q *ℤ g (union s t)) (q *ℤ g (intersection s t)) ks kt refl refl refl refl

  gains : Gains k (λ s. q *ℤ g s) x
  gains j lt = greedy.gains j (g (front k (suc j))) (g (front k j)) lt
      (ap (on_all g) (first_places-more k j lt))
      (ap (on_all g) (first_places-front k j (omega arith)))
      ∙ times-sub q (g (front k (suc j))) (g (front k j))

  none : (q *ℤ g (front k zero)) ≡ pos 0
  none =
      let e : g (empty_set k) ≡ pos 0 = cc law.at_empty in
      ap (λ s. q *ℤ g s) (front-none k) ∙ (ap (λ a. q *ℤ a) e ∙ *ℤ-zero q)

-- ---- its entries are small

times-twice : (q m : ℤ) → pos 0 ≤ℤ q → ((pos 2 *ℤ q) *ℤ m) ≡ ((q *ℤ m) +ℤ (q *ℤ m))
times-twice (pos n) m h = omega (arith, ints)
times-twice (negsuc n) m h = absurd (omega (arith, ints))

-- at most twice the greatest value, q times
pub greedy_small : (k : ℕ) (q m : ℤ) (g : List Bool → ℤ) (x : List ℤ) → pos 0 ≤ℤ q
    → ((s : List Bool) → length s ≡ k → (neg_ℤ m ≤ℤ g s) × (g s ≤ℤ m)) → IsGreedy q (on_all g) k x
    → All (λ a. (neg_ℤ ((pos 2 *ℤ q) *ℤ m) ≤ℤ a) × (a ≤ℤ ((pos 2 *ℤ q) *ℤ m))) x
greedy_small k q m g x low bounded greedy = at where
  scaled : (s : List Bool) → length s ≡ k → (neg_ℤ (q *ℤ m) ≤ℤ (q *ℤ g s))
      × ((q *ℤ g s) ≤ℤ (q *ℤ m))
  scaled s ks =
      let b = bounded s ks in
      let above = times-mono q (g s) m low b.1 in
      let under = times-mono q (neg_ℤ m) (g s) low b.0 in
      let n = times-neg q m in
      (omega (arith, ints, under, n), above)

  at : (j : ℕ) (d : ℤ) → j < length x → (neg_ℤ ((pos 2 *ℤ q) *ℤ m) ≤ℤ get_or x j d)
      × (get_or x j d ≤ℤ ((pos 2 *ℤ q) *ℤ m))
  at j d h =
      let lt : j < k = omega (arith, greedy.places) in
      let more = scaled (front k (suc j)) (length-front k (suc j)) in
      let here = scaled (front k j) (length-front k j) in
      let gain = greedy.gains j (g (front k (suc j))) (g (front k j)) lt
      (ap (on_all g) (first_places-more k j lt))
      (ap (on_all g) (first_places-front k j (omega arith))) in
      let parts = times-sub q (g (front k (suc j))) (g (front k j)) in
      let two = times-twice q m low in
      rw (get_or_default x j d (pos 0) h, two, gain, parts) (
        omega (arith, ints, more.0, more.1, here.0, here.1),
        omega (arith, ints, more.0, more.1, here.0, here.1),
      )
