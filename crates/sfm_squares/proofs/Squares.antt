-- What is more level at every slope has the lesser sum of squares.
use Rattle.std.proofs.Common.{◌≡◌, ℕ, zero, suc, ◌+◌, List, [], ◌∷◌, length, ℤ, pos, nat_abs, ◌+ℤ◌, ◌-ℤ◌, ◌*ℤ◌, ◌≤ℤ◌, ◌<ℤ◌, refl, ap, arith}
use Rattle.std.specs.Int.{int_min}
use Rattle.std.proofs.lemmas.Int.{ints, clamps, by_lt_z}
use Rattle.sfm_spec.specs.Sets.{magnitudes}
use Rattle.sfm_squares.specs.Level.{squares}
use Rattle.sfm_spec.proofs.Scaled.{times-add, times-sub, times-comm}

abbrev pub total : List ℤ → ℤ
total [] = pos 0
total (a ∷ y) = a +ℤ total y

-- what the entries below t lack to it, negated
abbrev pub low : ℤ → List ℤ → ℤ
low t [] = pos 0
low t (a ∷ y) = int_min (a -ℤ t) (pos 0) +ℤ low t y

-- that of one number, at k slopes from hi down
abbrev tower : ℕ → ℤ → ℤ → ℤ
tower zero hi a = pos 0
tower (suc k) hi a = int_min (a -ℤ hi) (pos 0) +ℤ tower k (hi -ℤ pos 1) a

-- and that of all
abbrev lows : ℕ → ℤ → List ℤ → ℤ
lows zero hi y = pos 0
lows (suc k) hi y = low hi y +ℤ lows k (hi -ℤ pos 1) y

-- a number that is not below hi lacks nothing
tower-none : (k : ℕ) (hi a : ℤ) → hi ≤ℤ a → tower k hi a ≡ pos 0
tower-none zero hi a le = refl
tower-none (suc k) hi a le = let r = tower-none k (hi -ℤ pos 1) a
    (omega (arith, ints, le)) in omega (arith, ints, clamps, le, r)

less_one : (x y : ℤ) → ((x -ℤ pos 1) *ℤ y) ≡ ((x *ℤ y) -ℤ y)
less_one x y =
    let c = times-comm (x -ℤ pos 1) y in
    let s = times-sub y x (pos 1) in
    let d = times-comm y x in
    omega (arith, ints, c, s, d)

-- the square of a number, by what it lacks at each slope
square-by : (k : ℕ) (hi a : ℤ) → (hi -ℤ pos k) ≤ℤ a → a ≤ℤ hi
    → ((a *ℤ a) +ℤ (pos 2 *ℤ tower k hi a)) ≡ (((pos 2 *ℤ (hi *ℤ a)) +ℤ a) -ℤ ((hi *ℤ hi) +ℤ hi))
square-by zero hi a below above =
    let e : a ≡ hi = omega (arith, ints, below, above) in
    rw e (omega (arith, ints))
square-by (suc k) hi a below above =
    by_lt_z a hi
    (λ lt. less lt (square-by k (hi -ℤ pos 1) a (omega (arith, ints, below))
    (omega (arith, ints, lt)))) same where
      less : a <ℤ hi → ((a *ℤ a) +ℤ (pos 2 *ℤ tower k (hi -ℤ pos 1) a))
          ≡ (((pos 2 *ℤ ((hi -ℤ pos 1) *ℤ a)) +ℤ a)
          -ℤ (((hi -ℤ pos 1) *ℤ (hi -ℤ pos 1)) +ℤ (hi -ℤ pos 1)))
          → ((a *ℤ a) +ℤ (pos 2 *ℤ tower (suc k) hi a))
          ≡ (((pos 2 *ℤ (hi *ℤ a)) +ℤ a) -ℤ ((hi *ℤ hi) +ℤ hi))
      less lt r =
          let p = less_one hi a in
          let q = less_one hi (hi -ℤ pos 1) in
          let s = times-comm hi (hi -ℤ pos 1) in
          let t = less_one hi hi in
          omega (arith, ints, clamps, lt, r, p, q, s, t)

      same : hi ≤ℤ a → ((a *ℤ a) +ℤ (pos 2 *ℤ tower (suc k) hi a))
          ≡ (((pos 2 *ℤ (hi *ℤ a)) +ℤ a) -ℤ ((hi *ℤ hi) +ℤ hi))
      same le =
          let e : a ≡ hi = omega (arith, ints, above, le) in
          let none = tower-none (suc k) hi hi (omega (arith, ints)) in
          rw e (omega (arith, ints, none))

-- the slopes may be taken first or the numbers
lows-none : (k : ℕ) (hi : ℤ) → lows k hi [] ≡ pos 0
lows-none zero hi = refl
lows-none (suc k) hi = let r = lows-none k (hi -ℤ pos 1) in omega (arith, ints, r)

lows-more : (k : ℕ) (hi a : ℤ) (y : List ℤ) → lows k hi (a ∷ y) ≡ (tower k hi a +ℤ lows k hi y)
lows-more zero hi a y = refl
lows-more (suc k) hi a y = let r = lows-more k (hi -ℤ pos 1) a y in omega (arith, ints, r)

-- all numbers lie between
pub data AreBetween (hi : ℤ) (k : ℕ) : List ℤ → Type 0 where
  none : AreBetween hi k []
  more : (a : ℤ) (y : List ℤ) → (hi -ℤ pos k) ≤ℤ a → a ≤ℤ hi → AreBetween hi k y
      → AreBetween hi k (a ∷ y)

-- so many times a number
abbrev count : List ℤ → ℤ → ℤ
count [] c = pos 0
count (a ∷ y) c = c +ℤ count y c

count-same : (y z : List ℤ) (c : ℤ) → length y ≡ length z → count y c ≡ count z c
count-same [] [] c h = refl
count-same [] (b ∷ z) c h = absurd (omega arith)
count-same (a ∷ y) [] c h = absurd (omega arith)
count-same (a ∷ y) (b ∷ z) c h = let r = count-same y z c (omega arith) in omega (arith, ints, r)

squares-by : (k : ℕ) (hi : ℤ) (y : List ℤ) → AreBetween hi k y
    → (squares y +ℤ (pos 2 *ℤ lows k hi y))
    ≡ (((pos 2 *ℤ (hi *ℤ total y)) +ℤ total y) -ℤ count y ((hi *ℤ hi) +ℤ hi))
squares-by k hi [] none = let r = lows-none k hi in let z = times-comm hi
    (pos 0) in omega (arith, ints, r, z)
squares-by k hi (a ∷ y) (more _ _ below above rest) =
    let r = squares-by k hi y rest in
    let s = square-by k hi a below above in
    let m = lows-more k hi a y in
    let t = times-add hi a (total y) in
    omega (arith, ints, r, s, m, t)

lows-less : (k : ℕ) (hi : ℤ) (y z : List ℤ) → ((t : ℤ) → low t y ≤ℤ low t z)
    → lows k hi y ≤ℤ lows k hi z
lows-less zero hi y z h = omega (arith, ints)
lows-less (suc k) hi y z h = let r = lows-less k (hi -ℤ pos 1) y z h in let o = h
    hi in omega (arith, ints, r, o)

-- the magnitudes bound the numbers
between-wider : (y : List ℤ) (m : ℕ) → magnitudes y ≤ℤ pos m → AreBetween (pos m) (m + m) y
between-wider [] m h = none
between-wider (a ∷ y) m h = more a y (omega (arith, ints, h, low_at y))
    (omega (arith, ints, h, low_at y)) (between-wider y m (omega (arith, ints, h))) where
      low_at : (x : List ℤ) → pos 0 ≤ℤ magnitudes x
      low_at [] = omega (arith, ints)
      low_at (b ∷ x) = let r = low_at x in omega (arith, ints, r)

magnitude_of : (y : List ℤ) → (m : ℕ) × (magnitudes y ≡ pos m)
magnitude_of [] = (0, refl)
magnitude_of (a ∷ y) = let (m, e) = magnitude_of y in (nat_abs a + m, omega (arith, ints, e))

-- of two lists with one sum, that which lacks less at each slope has the lesser squares
pub squares_by_slopes : (y z : List ℤ) → length y ≡ length z → total y ≡ total z
    → ((t : ℤ) → low t y ≤ℤ low t z) → squares z ≤ℤ squares y
squares_by_slopes y z same sum h =
    let (m, em) = magnitude_of y in
    let (n, en) = magnitude_of z in
    let by = squares-by ((m + n) + (m + n)) (pos (m + n)) y
    (between-wider y (m + n) (omega (arith, ints, em))) in
    let bz = squares-by ((m + n) + (m + n)) (pos (m + n)) z
    (between-wider z (m + n) (omega (arith, ints, en))) in
    let l = lows-less ((m + n) + (m + n)) (pos (m + n)) y z h in
    let c = count-same y z ((pos (m + n) *ℤ pos (m + n)) +ℤ pos (m + n)) same in
    let e = ap (λ s. pos (m + n) *ℤ s) sum in
    omega (arith, ints, by, bz, l, c, e, sum)
