-- The first bases of a list of terms are bases with small entries.
use Rattle.std.proofs.Common.{◌≡◌, ℕ, zero, suc, ◌^◌, List, [], ◌∷◌, length, map, ℤ, pos, neg_ℤ, ◌*ℤ◌, ◌≤ℤ◌, arith}
use Rattle.std.specs.List.{All}
use Rattle.std.proofs.lemmas.Int.{ints}
use Rattle.sfm_spec.specs.Bounds.{IsEntry, IsFactor}
use Rattle.sfm_spec.specs.Terms.{SetFunction, times, IsBase}
use Rattle.sfm_spec.proofs.Scaled.{times-mono}
use Rattle.sfm_spec.specs.Families.{meanings, AreBases}

module _ {X : Type 0} (places : X → List ℕ) (value : X → SetFunction) (size : X → ℤ)
    (start : X → ℤ → List ℤ) (q : ℤ)
    (starts : (x : X) → (length (start x q) ≡ length (places x))
    × IsBase (times q (value x)) (start x q))
    (starts_small : (x : X) → All
    (λ a. (neg_ℤ (pos 2 *ℤ q *ℤ size x) ≤ℤ a) × (a ≤ℤ (pos 2 *ℤ q *ℤ size x)))
    (start x q)) where
  pub starts-bases : (xs : List X) → AreBases q (meanings places value xs) (map (λ x. start x q) xs)
  starts-bases [] = tt
  starts-bases (x ∷ xs) = ((starts x).0, (starts x).1, starts-bases xs)

  product_small : (m : ℤ) → IsFactor q → m ≤ℤ pos (10 ^ 18) → (pos 2 *ℤ q *ℤ m) ≤ℤ pos (10 ^ 30)
  product_small m f h = let up = times-mono (pos 2 *ℤ q) m (pos (10 ^ 18))
      (omega (arith, ints, f.low)) h in omega (arith, ints, up, f.low, f.high)

  pub starts-small : IsFactor q → (xs : List X) → All (λ x. size x ≤ℤ pos (10 ^ 18)) xs
      → All (λ row. All IsEntry row) (map (λ x. start x q) xs)
  starts-small f [] h k d l = absurd (omega arith)
  starts-small f (x ∷ xs) h zero d l = λ i e lt.
      let s = starts_small x i e lt in
      let b = product_small (size x) f (h 0 x (omega arith)) in
      record { low = omega (arith, ints, s.0, b); high = omega (arith, ints, s.1, b) }
  starts-small f (x ∷ xs) h (suc k) d l = starts-small f xs (λ i e lt. h (suc i) e (omega arith)) k
      d (omega arith)
