-- Numbers and their squares: where the one are small the other are.
use Rattle.std.proofs.Common.{◌≡◌, ℕ, zero, suc, ◌*◌, ◌+◌, ◌<◌, ◌^◌, List, [], ◌∷◌, ◌++◌, length, take, get_or, ℤ, pos, negsuc, neg_ℤ, ◌+ℤ◌, ◌*ℤ◌, ◌≤ℤ◌, ◌<ℤ◌, ap, ◌∙◌, arith}
use Rattle.std.specs.List.{All}
use Rattle.std.proofs.lemmas.Int.{ints, clamps, by_lt_z}
use Rattle.std.proofs.lemmas.List.{take_more}
use Rattle.std.proofs.lemmas.List.Elements.{All-from_get_or, All-head, All-tail}
use Rattle.sfm_spec.specs.Bounds.{IsAtMost}
use Rattle.sfm_spec.specs.Families.{deficit}
use Rattle.sfm_spec.proofs.Scaled.{times-mono, times-comm, times-neg}
use Rattle.sfm_squares.specs.Level.{squares}

-- the square of the negative
square-neg : (a : ℤ) → (neg_ℤ a *ℤ neg_ℤ a) ≡ (a *ℤ a)
square-neg a =
    let one = times-neg (neg_ℤ a) a in
    let two = times-comm (neg_ℤ a) a in
    let three = times-neg a a in
    omega (arith, ints, one, two, three)

-- no square is below 0
pub square-low : (a : ℤ) → pos 0 ≤ℤ (a *ℤ a)
square-low (pos k) =
    let m = times-mono (pos k) (pos 0) (pos k) (omega (arith, ints)) (omega (arith, ints)) in
    let z = times-comm (pos k) (pos 0) in
    omega (arith, ints, m, z)
square-low (negsuc k) =
    let m = times-mono (pos (suc k)) (pos 0) (pos (suc k)) (omega (arith, ints))
    (omega (arith, ints)) in
    let z = times-comm (pos (suc k)) (pos 0) in
    let n = square-neg (negsuc k) in
    omega (arith, ints, m, z, n)

pub squares-low : (z : List ℤ) → pos 0 ≤ℤ squares z
squares-low [] = omega (arith, ints)
squares-low (a ∷ z) =
    let s = square-low a in
    let r = squares-low z in
    omega (arith, ints, s, r)

-- each square is at most all together
pub square-each : (z : List ℤ) (e : ℕ) → e < length z
    → (get_or z e (pos 0) *ℤ get_or z e (pos 0)) ≤ℤ squares z
square-each [] e l = absurd (omega (arith, l))
square-each (a ∷ z) zero l = let r = squares-low z in omega (arith, ints, r)
square-each (a ∷ z) (suc e) l =
    let s = square-low a in
    let r = square-each z e (omega (arith, l)) in
    omega (arith, ints, s, r)

-- those of the first numbers
squares-push : (z : List ℤ) (a : ℤ) → squares (z ++ a ∷ []) ≡ (squares z +ℤ (a *ℤ a))
squares-push [] a = omega (arith, ints)
squares-push (b ∷ z) a = let r = squares-push z a in omega (arith, ints, r)

pub squares-more : (z : List ℤ) (k : ℕ) → k < length z → squares (take (k + 1) z)
    ≡ (squares (take k z) +ℤ (get_or z k (pos 0) *ℤ get_or z k (pos 0)))
squares-more z k l =
    ap squares (take_more z k (pos 0) l) ∙ squares-push (take k z) (get_or z k (pos 0))

pub squares-part : (k : ℕ) (z : List ℤ) → squares (take k z) ≤ℤ squares z
squares-part zero z = squares-low z
squares-part (suc k) [] = omega (arith, ints)
squares-part (suc k) (a ∷ z) = let r = squares-part k z in omega (arith, ints, r)

-- a number of at least 10^15 + 1 has a square above 10^30
far : (a : ℤ) → pos (10 ^ 15) <ℤ a → pos (10 ^ 30) <ℤ (a *ℤ a)
far a more =
    let m = times-mono a (pos (10 ^ 15)) a (omega (arith, ints, more))
    (omega (arith, ints, more)) in
    let c = times-comm a (pos (10 ^ 15)) in
    omega (arith, ints, m, c, more)

-- so one whose square is not above that is within 10^15
pub root-small : (a : ℤ) → (a *ℤ a) ≤ℤ pos (10 ^ 30) → IsAtMost (10 ^ 15) a
root-small a h = record {
  low = by_lt_z (pos (10 ^ 15)) (neg_ℤ a)
      (λ more. let f = far (neg_ℤ a) more in let s = square-neg
      a in absurd (omega (arith, ints, f, s, h)))
      (λ le. omega (arith, ints, le));
  high = by_lt_z (pos (10 ^ 15)) a
      (λ more. let f = far a more in absurd (omega (arith, ints, f, h)))
      (λ le. le);
}

-- and so are all, where their squares together are not
pub roots-small : (z : List ℤ) → squares z ≤ℤ pos (10 ^ 30) → All (IsAtMost (10 ^ 15)) z
roots-small z h = All-from_get_or (IsAtMost (10 ^ 15)) z (pos 0) (λ e l.
    let s = square-each z e l in root-small (get_or z e (pos 0)) (omega (arith, ints, s, h)))

-- the square of a number within 2 * 10^13
near : (a : ℤ) → pos 0 ≤ℤ a → a ≤ℤ pos (2 * 10 ^ 13) → (a *ℤ a) ≤ℤ pos (4 * 10 ^ 26)
near a low high =
    let m = times-mono a a (pos (2 * 10 ^ 13)) low high in
    let c = times-comm a (pos (2 * 10 ^ 13)) in
    omega (arith, ints, m, c, high)

square-small : (a : ℤ) → IsAtMost (2 * 10 ^ 13) a → (a *ℤ a) ≤ℤ pos (4 * 10 ^ 26)
square-small (pos k) h = near (pos k) (omega (arith, ints)) h.high
square-small (negsuc k) h =
    let s = square-neg (negsuc k) in
    let n = near (pos (suc k)) (omega (arith, ints)) (omega (arith, ints, h.low)) in
    omega (arith, ints, s, n)

-- the squares of numbers within that
pub squares-small : (z : List ℤ) → All (IsAtMost (2 * 10 ^ 13)) z
    → squares z ≤ℤ pos (4 * 10 ^ 26 * length z)
squares-small [] h = omega (arith, ints)
squares-small (a ∷ z) h =
    let s = square-small a (All-head (IsAtMost (2 * 10 ^ 13)) a z h) in
    let r = squares-small z (All-tail (IsAtMost (2 * 10 ^ 13)) a z h) in
    omega (arith, ints, s, r)

-- the sum of min(f, 0), where no f is below -3 * 10^15
pub deficit-near : (n : ℕ) (f : ℕ → ℤ) → ((e : ℕ) → e < n → neg_ℤ (pos (3 * 10 ^ 15)) ≤ℤ f e)
    → neg_ℤ (pos (3 * 10 ^ 15 * n)) ≤ℤ deficit n f
deficit-near zero f h = omega (arith, ints)
deficit-near (suc n) f h =
    let one = h 0 (omega arith) in
    let r = deficit-near n (λ e. f (suc e)) (λ e l. h (suc e) (omega (arith, l))) in
    omega (arith, ints, clamps, one, r)
