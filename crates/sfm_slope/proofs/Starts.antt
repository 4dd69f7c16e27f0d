-- The sizes of terms that are small in all.
use Rattle.std.proofs.Common.{◌≡◌, ℕ, ◌^◌, Bool, false, List, length, map, get_or, Some, ℤ, pos, neg_ℤ, ◌*ℤ◌, ◌≤ℤ◌, refl, arith}
use Rattle.std.proofs.lemmas.Int.{ints}
use Rattle.std.specs.List.{All}
use Rattle.std.proofs.lemmas.List.{length-replicate, length-map, get_or-map}
use Rattle.std.proofs.lemmas.List.Elements.{All-map}
use Rattle.sfm_spec.specs.Sets.{empty_set}
use Rattle.sfm_spec.specs.Terms.{SetFunction, IsSubmodular}
use Rattle.sfm_spec.specs.Bounds.{AreBounded, IsAtMost, IsFactor, total_of}
use Rattle.sfm_exchange.specs.Scaled.{row_times, rows_times}
use Rattle.sfm_exchange.proofs.Scaling.{starts_times}
use Rattle.sfm_walk.proofs.Starting.{starts_bounded, starts_plain_bounded}
use Rattle.sfm_law.proofs.Lists.{below-total}

-- no size is below 0, since the value at the empty set is 0, so none exceeds the total
pub sizes-small : {X : Type 0} (places : X → List ℕ) (value : X → SetFunction) (size : X → ℤ)
    → ((x : X) (s : List Bool) (a : ℤ) → length s ≡ length (places x) → value x s ≡ Some a
    → (neg_ℤ (size x) ≤ℤ a) × (a ≤ℤ size x))
    → ((x : X) → value x (empty_set (length (places x))) ≡ Some (pos 0))
    → (xs : List X) → total_of (map size xs) ≤ℤ pos (10 ^ 18)
    → All (λ x. size x ≤ℤ pos (10 ^ 18)) xs
sizes-small places value size bounded empty xs h = at where
  low : All (λ a. pos 0 ≤ℤ a) (map size xs)
  low = All-map (λ a. pos 0 ≤ℤ a) size xs
      (λ k d l. let x = get_or xs k
      d in (bounded x (empty_set (length (places x))) (pos 0)
      (length-replicate (length (places x)) false) (empty x)).1)

  at : All (λ x. size x ≤ℤ pos (10 ^ 18)) xs
  at k d l = let b = below-total (map size xs) (pos (10 ^ 18)) low h k (pos 0)
      (rw length-map l) in rw (← get_or-map size xs k d (pos 0) l) b

-- the first bases of terms whose sizes are small in all, and their multiples
module _ {X : Type 0} (places : X → List ℕ) (value : X → SetFunction) (size : X → ℤ)
    (law : (x : X) → IsSubmodular (length (places x)) (value x))
    (range : (x : X) (s : List Bool) (a : ℤ) → length s ≡ length (places x) → value x s ≡ Some a
    → (neg_ℤ (size x) ≤ℤ a) × (a ≤ℤ size x)) (n : ℕ) (xs : List X)
    (bounded : AreBounded n (map places xs) (map size xs))
    (start : X → ℤ → List ℤ) (law_times : (x : X) (q : ℤ)
    → start x q ≡ row_times q (start x (pos 1)))
    (small : (x : X) (q : ℤ) → pos 1 ≤ℤ q
    → All (λ a. (neg_ℤ (pos 2 *ℤ q *ℤ size x) ≤ℤ a) × (a ≤ℤ (pos 2 *ℤ q *ℤ size x)))
    (start x q)) where
  pub firsts_small : All (λ row. All (IsAtMost (10 ^ 21)) row) (map (λ x. start x (pos 1)) xs)
  firsts_small k d l i e lt =
      let b = starts_plain_bounded places value size law range n xs bounded start (pos 1)
      (λ x. small x (pos 1)) refl k d l i e lt in
      record { low = omega (arith, ints, b.low); high = omega (arith, ints, b.high) }

  pub multiples_small : (q : ℤ) → IsFactor q
      → All (λ row. All (IsAtMost (10 ^ 25)) row) (rows_times q (map (λ x. start x (pos 1)) xs))
  multiples_small q f = rw (starts_times start law_times q xs)
      (starts_bounded places value size law range n xs bounded start q (λ x. small x q) f)
