-- Numbers that hang on how many places a set has: submodular where no further place adds more than
-- the one before. Textbook: Schrijver, Combinatorial Optimization, section 44 (concave functions of
-- the cardinality).
use Rattle.std.proofs.Common.{◌≡◌, ℕ, zero, suc, ◌+◌, ◌<◌, ◌≤◌, Bool, true, false, List, [], ◌∷◌, length, get_or, set, ℤ, pos, ◌+ℤ◌, ◌-ℤ◌, ◌*ℤ◌, ◌≤ℤ◌, if◌then◌else◌, Some, refl, ap, ◌∙◌, arith, length-set, get_or-set_other}
use Rattle.std.proofs.lemmas.Int.{ints}
use Rattle.std.proofs.Math.IntN.{*ℤ-zero}
use Rattle.sfm_spec.specs.Sets.{Has, size, sum_over}
use Rattle.sfm_spec.specs.Terms.{first_places, IsFamily, IsSubmodular, IsGreedy}
use Rattle.sfm_spec.proofs.Where.{size-cons}
use Rattle.sfm_spec.proofs.Sizes.{size-empty, size_below_length}
use Rattle.sfm_spec.proofs.Scaled.{times-mono, times-add}
use Rattle.sfm_law.proofs.LocalLaw.{on_all, local_law}
pub use Rattle.sfm_law.proofs.Places.{size-put, size-in}
use Rattle.sfm_law.proofs.Greedy.{front, first_places-front, first_places-more}

-- nothing counts 0, and up to k no count adds more than the one before
pub record IsFalling (k : ℕ) (h : ℕ → ℤ) : Type 0 where
  pub none : h 0 ≡ pos 0
  pub falls : (c : ℕ) → suc (suc c) ≤ k → (h (suc (suc c)) +ℤ h c) ≤ℤ (h (suc c) +ℤ h (suc c))

-- the number of the count of a set
abbrev pub counted : (ℕ → ℤ) → List Bool → ℤ
counted h s = h (size s)

-- ---- one place put in or taken out

pub size-out : (s : List Bool) (e : ℕ) → e < length s → Has s e
    → suc (size (set s e false)) ≡ size s
size-out s e h has = let r = rw has at (size-put s e false h) in omega (arith, r)

pub sum_over-put : (s : List Bool) (e : ℕ) (b : Bool) (x : List ℤ) → e < length s
    → length s ≡ length x
    → (sum_over (set s e b) x +ℤ (if get_or s e false then get_or x e (pos 0) else pos 0))
    ≡ (sum_over s x +ℤ (if b then get_or x e (pos 0) else pos 0))
sum_over-put [] e b x h same = absurd (omega arith)
sum_over-put (a ∷ s) e b [] h same = absurd (omega arith)
sum_over-put (a ∷ s) zero b (y ∷ x) h same = omega (arith, ints)
sum_over-put (a ∷ s) (suc e) b (y ∷ x) h same =
    let r = sum_over-put s e b x (omega arith) (omega arith) in omega (arith, ints, r)

pub sum_over-in : (s : List Bool) (e : ℕ) (x : List ℤ) → e < length s → length s ≡ length x
    → get_or s e false ≡ false → sum_over (set s e true) x ≡ (sum_over s x +ℤ get_or x e (pos 0))
sum_over-in s e x h same out =
    let r = rw out at (sum_over-put s e true x h same) in omega (arith, ints, r)

pub sum_over-out : (s : List Bool) (e : ℕ) (x : List ℤ) → e < length s → length s ≡ length x
    → Has s e → (sum_over (set s e false) x +ℤ get_or x e (pos 0)) ≡ sum_over s x
sum_over-out s e x h same has =
    let r = rw has at (sum_over-put s e false x h same) in omega (arith, ints, r)

-- ---- the law

pub falling-times : (k : ℕ) (q : ℤ) (h : ℕ → ℤ) → pos 0 ≤ℤ q → IsFalling k h
    → IsFalling k (λ c. q *ℤ h c)
falling-times k q h low falling = record {
  none = ap (λ a. q *ℤ a) falling.none ∙ *ℤ-zero q;
  falls = λ c lt.
      let more = times-mono q (h (suc (suc c)) +ℤ h c) (h (suc c) +ℤ h (suc c)) low
      (falling.falls c lt) in
      let left = times-add q (h (suc (suc c))) (h c) in
      let right = times-add q (h (suc c)) (h (suc c)) in
      omega (arith, ints, more, left, right);
}

pub counted-family : {k : ℕ} (h : ℕ → ℤ) → IsFamily k (on_all (counted h))
counted-family h = record {
  empty = refl;
  whole = refl;
  unions = λ s t l g a b. refl;
  intersections = λ s t l g a b. refl;
}

pub counted-submodular : (k : ℕ) (h : ℕ → ℤ) → IsFalling k h → IsSubmodular k (on_all (counted h))
counted-submodular k h falling = local_law k (counted h) (ap h (size-empty k) ∙ falling.none)
    (record { pairs = pairs }) where
      pairs : (s : List Bool) (a b : ℕ) → length s ≡ k → a < b → b < k → get_or s a false ≡ false
          → get_or s b false ≡ false
          → (counted h (set (set s a true) b true) +ℤ counted h s)
          ≤ℤ (counted h (set s a true) +ℤ counted h (set s b true))
      pairs s a b ks lt in_range out out' =
          let len = length-set s a true in
          let still : get_or (set s a true) b false ≡ false = get_or-set_other s a b true false
          (λ e. absurd (omega (arith, e))) ∙ out' in
          let one : size (set s a true) ≡ suc (size s) = size-in s a (omega arith) out in
          let other : size (set s b true) ≡ suc (size s) = size-in s b (omega arith) out' in
          let both : size (set (set s a true) b true) ≡ suc (suc (size s)) = size-in (set s a true)
          b
          (omega (arith, len)) still ∙ ap suc one in
          let few = size_below_length (set (set s a true) b true) in
          let len2 = length-set (set s a true) b true in
          let f = falling.falls (size s) (omega (arith, few, len, len2, both)) in
          let p = ap h both in
          let q = ap h one in
          let r = ap h other in
          omega (arith, ints, f, p, q, r)

-- ---- the first places

pub size-front : (k j : ℕ) → j ≤ k → size (front k j) ≡ j
size-front zero zero h = refl
size-front zero (suc j) h = absurd (omega arith)
size-front (suc k) zero h = let c = size-cons false (front k zero) in let r = size-front k zero
    (omega arith) in omega (arith, c, r)
size-front (suc k) (suc j) h = let c = size-cons true (front k j) in let r = size-front k j
    (omega arith) in omega (arith, c, r)

-- what each count adds, q times, is the greedy vector
pub counted-greedy : (k : ℕ) (q : ℤ) (h : ℕ → ℤ) (x : List ℤ) → length x ≡ k
    → ((j : ℕ) → j < k → get_or x j (pos 0) ≡ (q *ℤ (h (suc j) -ℤ h j)))
    → IsGreedy q (on_all (counted h)) k x
counted-greedy k q h x sized is = record { places = sized; gains = gains } where
  gains : (j : ℕ) (a b : ℤ) → j < k → on_all (counted h) (first_places k (j + 1)) ≡ Some a
      → on_all (counted h) (first_places k j) ≡ Some b → get_or x j (pos 0) ≡ (q *ℤ (a -ℤ b))
  gains j a b lt ea eb =
      let fa : counted h (first_places k (j + 1)) ≡ a = cc in
      let fb : counted h (first_places k j) ≡ b = cc in
      let na : size (first_places k (j + 1)) ≡ suc j = ap size (first_places-more k j lt)
      ∙ size-front k (suc j) (omega arith) in
      let nb : size (first_places k j) ≡ j = ap size (first_places-front k j (omega arith))
      ∙ size-front k j (omega arith) in
      let ga = rw na at fa in
      let gb = rw nb at fb in
      rw (← ga, ← gb) (is j lt)
