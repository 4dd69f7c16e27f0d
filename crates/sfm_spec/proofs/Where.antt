-- Sums over the places of a set of a function of the place.
use Rattle.std.proofs.Common.{◌≡◌, ℕ, zero, suc, ◌+◌, ◌<◌, Bool, true, false, List, [], ◌∷◌, length, get_or, nat_eq, ℤ, pos, ◌+ℤ◌, ◌-ℤ◌, ◌≤ℤ◌, ◌<ℤ◌, if◌then◌else◌, cond, refl, sym, ap, ◌∙◌, arith}
use lib.Dec.{eqb-zero-suc, eqb-suc-zero, eqb-suc-suc}
use Rattle.std.proofs.lemmas.List.Sums.{sum_by-cons}
use Rattle.std.proofs.lemmas.Int.{ints, clamps, by_lt_z}
use Rattle.std.proofs.lemmas.Bool.{false≢true}
use Rattle.sfm_spec.specs.Sets.{Has, part, size, sum_over}
use Rattle.sfm_spec.specs.Families.{entry_at, deficit, IsSigned}
use Rattle.sfm_spec.proofs.Sums.{share}

-- the size of a set with one place before it
pub size-cons : (b : Bool) (s : List Bool) → size (b ∷ s) ≡ ((if b then 1 else 0) + size s)
size-cons b s = sum_by-cons (λ x. cond x 1 0) b s

-- the sum of g over the places of a set
abbrev pub sum_where : List Bool → (ℕ → ℤ) → ℤ
sum_where [] g = pos 0
sum_where (b ∷ s) g = (if b then g 0 else pos 0) +ℤ sum_where s (λ e. g (suc e))

-- the sum of nothing
pub sum_where-zero : (s : List Bool) → sum_where s (λ e. pos 0) ≡ pos 0
sum_where-zero [] = refl
sum_where-zero (true ∷ s) = let r = sum_where-zero s in omega (arith, ints, r)
sum_where-zero (false ∷ s) = let r = sum_where-zero s in omega (arith, ints, r)

-- the sum of sums
pub sum_where-add : (s : List Bool) (g h : ℕ → ℤ)
    → sum_where s (λ e. g e +ℤ h e) ≡ (sum_where s g +ℤ sum_where s h)
sum_where-add [] g h = refl
sum_where-add (true ∷ s) g h =
    let r = sum_where-add s (λ e. g (suc e)) (λ e. h (suc e)) in omega (arith, ints, r)
sum_where-add (false ∷ s) g h =
    let r = sum_where-add s (λ e. g (suc e)) (λ e. h (suc e)) in omega (arith, ints, r)

-- the sum of the same numbers
pub sum_where-same : (s : List Bool) (g h : ℕ → ℤ) → ((e : ℕ) → g e ≡ h e)
    → sum_where s g ≡ sum_where s h
sum_where-same [] g h same = refl
sum_where-same (b ∷ s) g h same = ap (λ y. (if b then y else pos 0) +ℤ sum_where s (λ e. g (suc e)))
    (same 0) ∙ ap (λ y. (if b then h 0 else pos 0) +ℤ y)
    (sum_where-same s (λ e. g (suc e)) (λ e. h (suc e)) (λ e. same (suc e)))

-- a list of numbers read place by place; past its end nothing is read, and nothing summed
pub sum_where-less : (s : List Bool) (g : ℕ → ℤ) (shift : List ℤ)
    → sum_where s (λ e. g e -ℤ get_or shift e (pos 0)) ≡ (sum_where s g -ℤ sum_over s shift)
sum_where-less [] g shift = omega (arith, ints)
sum_where-less (b ∷ s) g [] = sum_where-same (b ∷ s) (λ e. g e -ℤ pos 0) g (λ e. less_nothing (g e))
    ∙ sym (less_nothing (sum_where (b ∷ s) g)) where
      less_nothing : (a : ℤ) → (a -ℤ pos 0) ≡ a
      less_nothing a = omega (arith, ints)
sum_where-less (true ∷ s) g (c ∷ shift) =
    let r = sum_where-less s (λ e. g (suc e)) shift in omega (arith, ints, r)
sum_where-less (false ∷ s) g (c ∷ shift) =
    let r = sum_where-less s (λ e. g (suc e)) shift in omega (arith, ints, r)

-- the sum of a number that stands at one place
pub sum_where-single : (s : List Bool) (place : ℕ) (a : ℤ) → place < length s
    → sum_where s (λ e. if nat_eq place e then a else pos 0) ≡ share s place a
sum_where-single [] place a h = absurd (omega arith)
sum_where-single (b ∷ s) zero a h =
    let z : sum_where s (λ e. if nat_eq 0 (suc e) then a else pos 0) ≡ pos 0 = sum_where-same s
    (λ e. if nat_eq 0 (suc e) then a else pos 0) (λ e. pos 0)
    (λ e. ap (λ t. if t then a else pos 0) (eqb-zero-suc e)) ∙ sum_where-zero s in
    omega (arith, ints, z)
sum_where-single (b ∷ s) (suc place) a h =
    let r = sum_where-single s place a (omega arith) in
    let z : sum_where s (λ e. if nat_eq (suc place) (suc e) then a else pos 0) ≡ share s place
    a = sum_where-same s (λ e. if nat_eq (suc place) (suc e) then a else pos 0)
    (λ e. if nat_eq place e then a else pos 0)
    (λ e. ap (λ t. if t then a else pos 0) (eqb-suc-suc place e)) ∙ r in
    nothing b (nat_eq (suc place) 0) (eqb-suc-zero place) z where
      nothing : (b t : Bool) → t ≡ false
          → sum_where s (λ e. if nat_eq (suc place) (suc e) then a else pos 0) ≡ share s place a
          → ((if b then (if t then a else pos 0) else pos 0) +ℤ sum_where s
          (λ e. if nat_eq (suc place) (suc e) then a else pos 0)) ≡ share s place a
      nothing true true e z = cc
      nothing true false e z = omega (arith, ints, z)
      nothing false t e z = omega (arith, ints, z)

-- a term's row, summed over a set, is the row summed over the set's part
pub sum_where-entries : (s : List Bool) (places : List ℕ) (x : List ℤ)
    → ((j : ℕ) → j < length places → get_or places j 0 < length s)
    → sum_where s (entry_at places x) ≡ sum_over (part places s) x
sum_where-entries s [] x below = sum_where-zero s
sum_where-entries s (place ∷ places) [] below = sum_where-zero s
sum_where-entries s (place ∷ places) (a ∷ x) below =
    let r = sum_where-entries s places x (λ j h. below (suc j) (omega arith)) in
    let one = sum_where-single s place a (below 0 (omega arith)) in
    sum_where-add s (λ e. if nat_eq place e then a else pos 0) (entry_at places x)
    ∙ (ap (λ y. y +ℤ sum_where s (entry_at places x)) one ∙ ap (λ y. share s place a +ℤ y) r)

-- ---- the deficit is below every such sum, and reached at the sets with all places below zero

-- no set has a smaller sum
pub deficit_below : (s : List Bool) (z : ℕ → ℤ) → deficit (length s) z ≤ℤ sum_where s z
deficit_below [] z = omega (arith, ints)
deficit_below (true ∷ s) z = let r = deficit_below s
    (λ e. z (suc e)) in omega (arith, ints, clamps, r)
deficit_below (false ∷ s) z = let r = deficit_below s
    (λ e. z (suc e)) in omega (arith, ints, clamps, r)

not_above : (a : ℤ) → (pos 0 <ℤ a → ⊥) → a ≤ℤ pos 0
not_above a n = by_lt_z (pos 0) a (λ l. absurd (n l)) (λ l. l)

not_below : (a : ℤ) → (a <ℤ pos 0 → ⊥) → pos 0 ≤ℤ a
not_below a n = by_lt_z a (pos 0) (λ l. absurd (n l)) (λ l. l)

signed_tail : (b : Bool) (s : List Bool) (z : ℕ → ℤ) → IsSigned (length (b ∷ s)) z (b ∷ s)
    → IsSigned (length s) (λ e. z (suc e)) s
signed_tail b s z h = record {
  below = λ e l. h.below (suc e) (omega arith);
  above = λ e l. h.above (suc e) (omega arith);
}

-- a set with the signs of z reaches it
pub deficit_at : (s : List Bool) (z : ℕ → ℤ) → IsSigned (length s) z s
    → sum_where s z ≡ deficit (length s) z
deficit_at [] z h = refl
deficit_at (true ∷ s) z h =
    let r = deficit_at s (λ e. z (suc e)) (signed_tail true s z h) in
    let low : z 0 ≤ℤ pos 0 = not_above (z 0) (λ a. h.above 0 (omega arith) a refl) in
    omega (arith, ints, clamps, r, low)
deficit_at (false ∷ s) z h =
    let r = deficit_at s (λ e. z (suc e)) (signed_tail false s z h) in
    let high : pos 0 ≤ℤ z 0 = not_below (z 0) (λ a. false≢true (h.below 0 (omega arith) a)) in
    omega (arith, ints, clamps, r, high)

-- a set that reaches it has the signs of z
pub signed_at : (s : List Bool) (z : ℕ → ℤ) → sum_where s z ≡ deficit (length s) z
    → IsSigned (length s) z s
signed_at [] z h = record {
  below = λ e l. absurd (omega arith);
  above = λ e l. absurd (omega arith);
}
signed_at (true ∷ s) z h =
    let r = deficit_below s (λ e. z (suc e)) in
    let tail = signed_at s (λ e. z (suc e)) (omega (arith, ints, clamps, r, h)) in
    let low : z 0 ≤ℤ pos 0 = omega (arith, ints, clamps, r, h) in
    record { below = below tail; above = above tail low } where
      below : IsSigned (length s) (λ e. z (suc e)) s → (e : ℕ) → e < length (true ∷ s)
          → z e <ℤ pos 0 → Has (true ∷ s) e
      below tail zero l a = refl
      below tail (suc e) l a = tail.below e (omega arith) a

      above : IsSigned (length s) (λ e. z (suc e)) s → z 0 ≤ℤ pos 0 → (e : ℕ)
          → e < length (true ∷ s) → pos 0 <ℤ z e → Has (true ∷ s) e → ⊥
      above tail low zero l a g = omega (arith, ints, low, a)
      above tail low (suc e) l a g = tail.above e (omega arith) a g
signed_at (false ∷ s) z h =
    let r = deficit_below s (λ e. z (suc e)) in
    let tail = signed_at s (λ e. z (suc e)) (omega (arith, ints, clamps, r, h)) in
    let high : pos 0 ≤ℤ z 0 = omega (arith, ints, clamps, r, h) in
    record { below = below tail high; above = above tail } where
      below : IsSigned (length s) (λ e. z (suc e)) s → pos 0 ≤ℤ z 0 → (e : ℕ)
          → e < length (false ∷ s) → z e <ℤ pos 0 → Has (false ∷ s) e
      below tail high zero l a = absurd (omega (arith, ints, high, a))
      below tail high (suc e) l a = tail.below e (omega arith) a

      above : IsSigned (length s) (λ e. z (suc e)) s → (e : ℕ) → e < length (false ∷ s)
          → pos 0 <ℤ z e → Has (false ∷ s) e → ⊥
      above tail zero l a g = false≢true g
      above tail (suc e) l a g = tail.above e (omega arith) a g
