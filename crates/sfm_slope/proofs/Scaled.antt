-- Multiples of rows and of slopes.
use Rattle.std.proofs.Common.{◌≡◌, ℕ, ◌+◌, ◌<◌, ◌≤◌, ◌^◌, ◌++◌, take, get_or, unsigned_abs, neg_ℤ, List, [], ◌∷◌, length, map, ℤ, pos, ◌*ℤ◌, ◌≤ℤ◌, refl, ap, ◌∙◌, arith}
use Rattle.std.proofs.lemmas.Int.{ints}
use Rattle.std.proofs.lemmas.List.{map-append, take_more}
use Rattle.std.proofs.lemmas.List.Elements.{All-map}
use Rattle.std.specs.List.{All}
use Rattle.sfm_spec.specs.Bounds.{IsAtMost, IsEntry, IsFactor}
use Rattle.sfm_spec.specs.Slopes.{IsSameSlope}
use Rattle.sfm_base.proofs.Slopes.{at_most_from_abs}
use Rattle.sfm_spec.proofs.Scaled.{times-assoc, times-comm, times-mono}
use Rattle.sfm_exchange.specs.Scaled.{row_times}

-- 64 times a factor that is not too large is a factor
pub factor-grains : (q : ℤ) → IsFactor q → q ≤ℤ pos 15625 → IsFactor (q *ℤ pos 64)
factor-grains q f few = let l = f.low in record {
  low = omega (arith, ints, l);
  high = omega (arith, ints, few);
}

-- 64 times both numbers are the same slope
pub same-grains : (p q : ℤ) → IsSameSlope (p *ℤ pos 64) (q *ℤ pos 64) p q
same-grains p q = times-assoc p (pos 64) q ∙ ap (λ z. p *ℤ z) (times-comm (pos 64) q)

-- what a list is mapped to, with one element more
pub mapped_more : {X Y : Type 0} (f : X → Y) (xs : List X) (i : ℕ) (d : X) (done : List Y) (y : Y)
    → i < length xs → done ≡ map f (take i xs) → y ≡ f (get_or xs i d)
    → done ++ y ∷ [] ≡ map f (take (i + 1) xs)
mapped_more f xs i d done y l before is =
    rw (take_more xs i d l, map-append f (take i xs) (get_or xs i d ∷ []), before, is) refl

-- magnitudes as the code tells them
pub small_from_abs : (m : ℕ) (rows : List (List ℤ))
    → All (λ x. All (λ a. unsigned_abs a ≤ m) x) rows → All (λ x. All (IsAtMost m) x) rows
small_from_abs m rows h = λ k d l i e lt. at_most_from_abs m (get_or (get_or rows k d) i e)
    (h k d l i e lt)

-- entries of at most m are at most what m is
pub small_within : (m k : ℕ) → m ≤ k → (rows : List (List ℤ)) → All (λ x. All (IsAtMost m) x) rows
    → All (λ x. All (IsAtMost k) x) rows
small_within m k le rows h = λ i d l j e lt.
    let b = h i d l j e lt in record {
      low = omega (arith, ints, b.low, le);
      high = omega (arith, ints, b.high, le);
    }

-- entries of at most 10^19 have multiples of at most 10^25
row-small : (q : ℤ) (x : List ℤ) → IsFactor q → All (IsAtMost (10 ^ 19)) x
    → All (IsAtMost (10 ^ 25)) (row_times q x)
row-small q x f h = All-map (IsAtMost (10 ^ 25)) (λ a. q *ℤ a) x
    (λ k d l. one (get_or x k d) (h k d l)) where
      one : (a : ℤ) → IsAtMost (10 ^ 19) a → IsAtMost (10 ^ 25) (q *ℤ a)
      one a g =
          let up = times-mono q a (pos (10 ^ 19)) (omega (arith, ints, f.low)) g.high in
          let down = times-mono q (neg_ℤ (pos (10 ^ 19))) a (omega (arith, ints, f.low)) g.low in
          record { low = omega (arith, ints, down, f.high); high = omega (arith, ints, up, f.high) }

pub rows-small : (q : ℤ) (rows : List (List ℤ)) → IsFactor q
    → All (λ x. All (IsAtMost (10 ^ 19)) x) rows
    → All (λ x. All (IsAtMost (10 ^ 25)) x) (map (row_times q) rows)
rows-small q rows f h = All-map (λ x. All (IsAtMost (10 ^ 25)) x) (row_times q) rows
    (λ k d l. row-small q (get_or rows k d) f (h k d l))

-- once each entry
one-times : (a : ℤ) → (pos 1 *ℤ a) ≡ a
one-times a = omega (arith, ints)

row_once : (x : List ℤ) → row_times (pos 1) x ≡ x
row_once [] = refl
row_once (a ∷ x) = rw (one-times a, row_once x) refl

pub rows_once : (rows : List (List ℤ)) → map (row_times (pos 1)) rows ≡ rows
rows_once [] = refl
rows_once (x ∷ rows) = rw (row_once x, rows_once rows) refl

-- entries that are small are entries
pub rows-entries : (rows : List (List ℤ)) → All (λ x. All (IsAtMost (10 ^ 25)) x) rows
    → All (λ x. All IsEntry x) rows
rows-entries rows h = λ k d l i e lt.
    let s = h k d l i e lt in record {
      low = omega (arith, ints, s.low);
      high = omega (arith, ints, s.high);
    }
