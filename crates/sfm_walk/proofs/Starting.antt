-- The first bases and the plain shift are small.
use Rattle.std.proofs.Common.{◌≡◌, ℕ, zero, suc, ◌≤◌, Bool, Some, length, ◌*◌, ◌^◌, List, [], ◌∷◌, map, get_or, replicate, ℤ, pos, negsuc, neg_ℤ, nat_abs, ◌*ℤ◌, ◌≤ℤ◌, arith}
use Rattle.std.specs.List.{All}
use Rattle.std.proofs.lemmas.Int.{ints}
use Rattle.sfm_spec.specs.Sets.{magnitudes}
use Rattle.sfm_spec.specs.Bounds.{AreBounded, IsAtMost, IsFactor, total_of}
use Rattle.sfm_spec.specs.Terms.{SetFunction, IsSubmodular}
use Rattle.sfm_spec.proofs.Scaled.{times-mono}
use Rattle.std.proofs.lemmas.List.{length-map, get_or-map}
use Rattle.sfm_reach.proofs.Basing.{size_low, sizes_all}

-- the same number for each place
pub magnitudes-even : (n : ℕ) (p : ℤ) → IsAtMost (10 ^ 24) p
    → magnitudes (replicate n p) ≤ℤ pos (10 ^ 24 * n)
magnitudes-even zero p h = omega (arith, ints)
magnitudes-even (suc n) p h =
    let r = magnitudes-even n p h in
    let one = by_sign p h in
    omega (arith, ints, r, one) where
      by_sign : (p : ℤ) → IsAtMost (10 ^ 24) p → pos (nat_abs p) ≤ℤ pos (10 ^ 24)
      by_sign (pos k) g = omega (arith, ints, g.low, g.high)
      by_sign (negsuc k) g = omega (arith, ints, g.low, g.high)

-- no shift at all
pub magnitudes_none : (n : ℕ) → magnitudes (replicate n (pos 0)) ≤ℤ pos 0
magnitudes_none zero = omega (arith, ints)
magnitudes_none (suc n) = let r = magnitudes_none n in omega (arith, ints, r)

-- of few places
pub even_small : (shift : List ℤ) (n : ℕ) (p : ℤ) → IsAtMost (10 ^ 24) p → n ≤ 256
    → shift ≡ replicate n p → magnitudes shift ≤ℤ pos (10 ^ 27)
even_small shift n p h few same =
    let m = magnitudes-even n p h in rw same (omega (arith, ints, m, few))

module _ {X : Type 0} (size : X → ℤ) (start : X → ℤ → List ℤ) (q : ℤ)
    (starts_small : (x : X) → All
    (λ a. (neg_ℤ (pos 2 *ℤ q *ℤ size x) ≤ℤ a) × (a ≤ℤ (pos 2 *ℤ q *ℤ size x)))
    (start x q)) where
  product_small : (m : ℤ) → IsFactor q → m ≤ℤ pos (10 ^ 18) → (pos 2 *ℤ q *ℤ m) ≤ℤ pos (10 ^ 25)
  product_small m f h = let up = times-mono (pos 2 *ℤ q) m (pos (10 ^ 18))
      (omega (arith, ints, f.low)) h in omega (arith, ints, up, f.low, f.high)

  product_plain : (m : ℤ) → q ≡ pos 1 → m ≤ℤ pos (10 ^ 18) → (pos 2 *ℤ q *ℤ m) ≤ℤ pos (2 * 10 ^ 18)
  product_plain m one h = let up = times-mono (pos 2 *ℤ q) m (pos (10 ^ 18))
      (omega (arith, ints, one)) h in omega (arith, ints, up, one)

  -- the entries of the first bases, where what bounds them is no more than m
  starts_upto : (m : ℕ) (xs : List X) → All (λ x. (pos 2 *ℤ q *ℤ size x) ≤ℤ pos m) xs
      → All (λ row. All (IsAtMost m) row) (map (λ x. start x q) xs)
  starts_upto m [] h k d l = absurd (omega arith)
  starts_upto m (x ∷ xs) h zero d l = λ i e lt.
      let s = starts_small x i e lt in
      let b = h 0 x (omega arith) in
      record { low = omega (arith, ints, s.0, b); high = omega (arith, ints, s.1, b) }
  starts_upto m (x ∷ xs) h (suc k) d l = starts_upto m xs (λ i e lt. h (suc i) e (omega arith)) k d
      (omega arith)

  -- at each factor
  pub starts_within : IsFactor q → (xs : List X) → All (λ x. size x ≤ℤ pos (10 ^ 18)) xs
      → All (λ row. All (IsAtMost (10 ^ 25)) row) (map (λ x. start x q) xs)
  starts_within f xs h = starts_upto (10 ^ 25) xs
      (λ k d l. product_small (size (get_or xs k d)) f (h k d l))

  -- of the terms themselves
  pub starts_plain : q ≡ pos 1 → (xs : List X) → All (λ x. size x ≤ℤ pos (10 ^ 18)) xs
      → All (λ row. All (IsAtMost (2 * 10 ^ 18)) row) (map (λ x. start x q) xs)
  starts_plain one xs h = starts_upto (2 * 10 ^ 18) xs
      (λ k d l. product_plain (size (get_or xs k d)) one (h k d l))

-- where the sum of all bounds is small that of each term is
pub each_bounded : {X : Type 0} (size : X → ℤ) (xs : List X) → ((x : X) → pos 0 ≤ℤ size x)
    → total_of (map size xs) ≤ℤ pos (10 ^ 18) → All (λ x. size x ≤ℤ pos (10 ^ 18)) xs
each_bounded size xs sound small k d l =
    let b = sizes_all size xs sound small k (pos 0) (rw length-map l) in
    rw (← get_or-map size xs k d (pos 0) l) b

-- the same of the terms of a graph, by their laws
module _ {X : Type 0} (places : X → List ℕ) (value : X → SetFunction) (size : X → ℤ)
    (law : (x : X) → IsSubmodular (length (places x)) (value x))
    (range : (x : X) (s : List Bool) (a : ℤ) → length s ≡ length (places x) → value x s ≡ Some a
    → (neg_ℤ (size x) ≤ℤ a) × (a ≤ℤ size x)) (n : ℕ) (xs : List X)
    (bounded : AreBounded n (map places xs) (map size xs)) where
  pub sizes_bounded : All (λ x. size x ≤ℤ pos (10 ^ 18)) xs
  sizes_bounded = each_bounded size xs (size_low places value size law range) bounded.small

  pub starts_bounded : (start : X → ℤ → List ℤ) (q : ℤ)
      (starts_small : (x : X) → pos 1 ≤ℤ q
      → All (λ a. (neg_ℤ (pos 2 *ℤ q *ℤ size x) ≤ℤ a) × (a ≤ℤ (pos 2 *ℤ q *ℤ size x))) (start x q))
      → IsFactor q
      → All (λ row. All (IsAtMost (10 ^ 25)) row) (map (λ x. start x q) xs)
  starts_bounded start q starts_small f = starts_within size start q (λ x. starts_small x f.low) f
      xs sizes_bounded

  pub starts_plain_bounded : (start : X → ℤ → List ℤ) (q : ℤ)
      (starts_small : (x : X) → pos 1 ≤ℤ q
      → All (λ a. (neg_ℤ (pos 2 *ℤ q *ℤ size x) ≤ℤ a) × (a ≤ℤ (pos 2 *ℤ q *ℤ size x))) (start x q))
      → q ≡ pos 1
      → All (λ row. All (IsAtMost (2 * 10 ^ 18)) row) (map (λ x. start x q) xs)
  starts_plain_bounded start q starts_small one =
      starts_plain size start q (λ x. starts_small x (omega (arith, ints, one))) one xs
      sizes_bounded
