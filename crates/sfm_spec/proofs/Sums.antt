-- Sums over unions, intersections and changed lists.
use Rattle.std.proofs.Common.{◌≡◌, ◌≢◌, ℕ, zero, suc, ◌+◌, ◌<◌, Bool, true, false, ◌&&◌, ◌||◌, List, [], ◌∷◌, length, get_or, set, ℤ, pos, ◌+ℤ◌, ◌-ℤ◌, if◌then◌else◌, refl, sym, arith, length-set, get_or-set_other, drop, nat_abs}
use Rattle.std.proofs.lemmas.Int.{ints}
use Rattle.std.proofs.lemmas.List.{drop_more}
use Rattle.sfm_spec.specs.Sets.{union, intersection, sum_over, magnitudes}
use Rattle.sfm_spec.specs.Terms.{exchanged}

-- ---- numbers

-- two sums with the middle numbers exchanged for others of the same sum
pub add_swap : (a b c d e f : ℤ) → (c +ℤ d) ≡ (e +ℤ f)
    → ((a +ℤ c) +ℤ (b +ℤ d)) ≡ ((a +ℤ e) +ℤ (b +ℤ f))
add_swap a b c d e f h = omega (arith, ints)

-- ---- unions and intersections

-- a union has as many places as its sets
pub length-union : (s t : List Bool) → length s ≡ length t → length (union s t) ≡ length s
length-union [] t h = refl
length-union (a ∷ s) [] h = omega arith
length-union (a ∷ s) (b ∷ t) h = let r : length (union s t) ≡ length s = length-union s t
    (omega arith) in omega arith

-- an intersection has as many places as its sets
pub length-intersection : (s t : List Bool) → length s ≡ length t
    → length (intersection s t) ≡ length s
length-intersection [] t h = refl
length-intersection (a ∷ s) [] h = omega arith
length-intersection (a ∷ s) (b ∷ t) h =
    let r : length (intersection s t) ≡ length s = length-intersection s t
    (omega arith) in omega arith

one : (a b : Bool) (x : ℤ) → ((if (a || b) then x else pos 0) +ℤ (if (a && b) then x else pos 0))
    ≡ ((if a then x else pos 0) +ℤ (if b then x else pos 0))
one true true x = refl
one true false x = refl
one false true x = omega (arith, ints)
one false false x = refl

-- the sums over union and intersection add up to those over the sets
pub sum_over-modular : (s t : List Bool) (x : List ℤ) → length s ≡ length t → length s ≡ length x
    → (sum_over (union s t) x +ℤ sum_over (intersection s t) x) ≡ (sum_over s x +ℤ sum_over t x)
sum_over-modular [] [] x h k = refl
sum_over-modular [] (b ∷ t) x h k = absurd (omega arith)
sum_over-modular (a ∷ s) [] x h k = absurd (omega arith)
sum_over-modular (a ∷ s) (b ∷ t) [] h k = absurd (omega arith)
sum_over-modular (a ∷ s) (b ∷ t) (y ∷ x) h k =
    let r : (sum_over (union s t) x +ℤ sum_over (intersection s t) x)
    ≡ (sum_over s x +ℤ sum_over t x) = sum_over-modular s t x (omega arith) (omega arith) in
    let o = one a b y in
    omega (arith, ints, r, o)

-- the same for a list of any length: past its end nothing is summed
pub sum_over-modular_any : (s t : List Bool) (x : List ℤ) → length s ≡ length t
    → (sum_over (union s t) x +ℤ sum_over (intersection s t) x) ≡ (sum_over s x +ℤ sum_over t x)
sum_over-modular_any [] [] x h = refl
sum_over-modular_any [] (b ∷ t) x h = absurd (omega arith)
sum_over-modular_any (a ∷ s) [] x h = absurd (omega arith)
sum_over-modular_any (a ∷ s) (b ∷ t) [] h = refl
sum_over-modular_any (a ∷ s) (b ∷ t) (y ∷ x) h =
    let r : (sum_over (union s t) x +ℤ sum_over (intersection s t) x)
    ≡ (sum_over s x +ℤ sum_over t x) = sum_over-modular_any s t x (omega arith) in
    let o = one a b y in
    omega (arith, ints, r, o)

-- ---- one entry changed

-- the part of the sum that stands at i
abbrev pub share : List Bool → ℕ → ℤ → ℤ
share s i a = if get_or s i false then a else pos 0

-- the sum after one entry is written
pub sum_over-set : (s : List Bool) (x : List ℤ) (i : ℕ) (a : ℤ) → length s ≡ length x → i < length x
    → (sum_over s (set x i a) +ℤ share s i (get_or x i (pos 0))) ≡ (sum_over s x +ℤ share s i a)
sum_over-set [] [] i a h k = absurd (omega arith)
sum_over-set [] (y ∷ x) i a h k = absurd (omega arith)
sum_over-set (b ∷ s) [] i a h k = absurd (omega arith)
sum_over-set (b ∷ s) (y ∷ x) zero a h k = omega (arith, ints)
sum_over-set (b ∷ s) (y ∷ x) (suc i) a h k =
    let r : (sum_over s (set x i a) +ℤ share s i (get_or x i (pos 0)))
    ≡ (sum_over s x +ℤ share s i a) = sum_over-set s x i a (omega arith) (omega arith) in
    omega (arith, ints, r)

share_add : (s : List Bool) (i : ℕ) (a b : ℤ) → share s i (a +ℤ b) ≡ (share s i a +ℤ share s i b)
share_add s i a b = share_add_at (get_or s i false) a b where
  share_add_at : (t : Bool) (a b : ℤ)
      → (if t then (a +ℤ b) else pos 0) ≡ ((if t then a else pos 0) +ℤ (if t then b else pos 0))
  share_add_at true a b = refl
  share_add_at false a b = refl

share_sub : (s : List Bool) (i : ℕ) (a b : ℤ) → share s i (a -ℤ b) ≡ (share s i a -ℤ share s i b)
share_sub s i a b = share_sub_at (get_or s i false) a b where
  share_sub_at : (t : Bool) (a b : ℤ)
      → (if t then (a -ℤ b) else pos 0) ≡ ((if t then a else pos 0) -ℤ (if t then b else pos 0))
  share_sub_at true a b = refl
  share_sub_at false a b = refl

-- an exchange keeps the length
pub length-exchanged : (x : List ℤ) (u v : ℕ) (a : ℤ) → length (exchanged x u v a) ≡ length x
length-exchanged x u v a = simp length-set

-- the sum after an exchange
pub sum_over-exchanged : (s : List Bool) (x : List ℤ) (u v : ℕ) (a : ℤ) → length s ≡ length x
    → u < length x → v < length x → u ≢ v
    → sum_over s (exchanged x u v a) ≡ (sum_over s x +ℤ (share s u a -ℤ share s v a))
sum_over-exchanged s x u v a h ku kv ne =
    let raised : List ℤ = set x u (get_or x u (pos 0) +ℤ a) in
    let len : length raised ≡ length x = length-set x u (get_or x u (pos 0) +ℤ a) in
    let same : get_or raised v (pos 0) ≡ get_or x v (pos 0) = get_or-set_other x u v
    (get_or x u (pos 0) +ℤ a) (pos 0) (λ e. ne (sym e)) in
    let one = sum_over-set s x u (get_or x u (pos 0) +ℤ a) h ku in
    let two = sum_over-set s raised v (get_or x v (pos 0) -ℤ a) (omega arith) (omega arith) in
    let three = rw same at two in
    omega (
      arith,
      ints,
      one,
      three,
      share_add s u (get_or x u (pos 0)) a,
      share_sub s v (get_or x v (pos 0)) a,
    )

-- ---- one place after another

-- the sum from place j on
pub sum_over-drop : (s : List Bool) (x : List ℤ) (j : ℕ) → j < length s → j < length x
    → sum_over (drop j s) (drop j x)
    ≡ (share s j (get_or x j (pos 0)) +ℤ sum_over (drop (j + 1) s) (drop (j + 1) x))
sum_over-drop s x j hs hx = rw (drop_more s j false hs, drop_more x j (pos 0) hx) refl

-- the magnitudes from place j on
pub magnitudes-drop : (x : List ℤ) (j : ℕ) → j < length x
    → magnitudes (drop j x) ≡ (pos (nat_abs (get_or x j (pos 0))) +ℤ magnitudes (drop (j + 1) x))
magnitudes-drop x j h = rw (drop_more x j (pos 0) h) refl
