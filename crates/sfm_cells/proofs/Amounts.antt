-- Sums of numbered amounts: one amount changed, the sums over all numbers of a set, and bounds.
use Rattle.std.proofs.Common.{◌≡◌, ℕ, zero, suc, ◌+◌, ◌<◌, Bool, true, false, List, [], ◌∷◌, length, get_or, set, replicate, nat_eq, ℤ, pos, ◌+ℤ◌, ◌≤ℤ◌, ◌<ℤ◌, if◌then◌else◌, refl, sym, ap, ◌∙◌, arith, ⊎_elim, drop, length-set, get_or-set_other, get_or-set_same}
use Rattle.std.proofs.lemmas.Int.{ints}
use Rattle.std.proofs.lemmas.Bool.{cases_eq, eq-eqb, ne_eqb, false≢true}
use Rattle.std.proofs.lemmas.List.{length-replicate, get_or-replicate, drop_more}
use Rattle.sfm_spec.specs.Sets.{Has, sum_over}
use Rattle.sfm_spec.proofs.Sums.{share, sum_over-set}
use Rattle.sfm_cells.specs.Splits.{sum_at, amount_at}
use Rattle.sfm_cells.specs.Cells.{sum_in, label_at, only}

only-add : (j k : ℕ) (a b : ℤ) → only j k (a +ℤ b) ≡ (only j k a +ℤ only j k b)
only-add j k a b = at (nat_eq j k) where
  at : (t : Bool) → (if t then (a +ℤ b) else pos 0)
      ≡ ((if t then a else pos 0) +ℤ (if t then b else pos 0))
  at true = refl
  at false = refl

-- one amount raised by a: the sum of its number rises by a, and no other
pub sum_at-set : (k : ℕ) (js : List ℕ) (y : List ℤ) (e : ℕ) (a : ℤ) → length y ≡ length js
    → e < length js
    → sum_at k js (set y e (amount_at y e +ℤ a)) ≡ (sum_at k js y +ℤ only (label_at js e) k a)
sum_at-set k [] y e a same lt = absurd (omega arith)
sum_at-set k (j ∷ js) [] e a same lt = absurd (omega arith)
sum_at-set k (j ∷ js) (b ∷ y) zero a same lt = let o = only-add j k b a in omega (arith, ints, o)
sum_at-set k (j ∷ js) (b ∷ y) (suc e) a same lt =
    let r = sum_at-set k js y e a (omega arith) (omega arith) in omega (arith, ints, r)

pub only-same : (j k : ℕ) (a : ℤ) → j ≡ k → only j k a ≡ a
only-same j k a e = rw (eq-eqb j k e) refl

pub only-other : (j k : ℕ) (a : ℤ) → (j ≡ k → ⊥) → only j k a ≡ pos 0
only-other j k a ne = rw (ne_eqb j k ne) refl

-- ---- the sums of all numbers together

-- the sums of the numbers below n, as a list
abbrev pub tally : ℕ → List ℕ → List ℤ → List ℤ
tally n [] y = replicate n (pos 0)
tally n (j ∷ js) [] = replicate n (pos 0)
tally n (j ∷ js) (a ∷ y) = set (tally n js y) j (amount_at (tally n js y) j +ℤ a)

pub length-tally : (n : ℕ) (js : List ℕ) (y : List ℤ) → length (tally n js y) ≡ n
length-tally n [] y = length-replicate n (pos 0)
length-tally n (j ∷ js) [] = length-replicate n (pos 0)
length-tally n (j ∷ js) (a ∷ y) = length-set (tally n js y) j (amount_at (tally n js y) j +ℤ a)
    ∙ length-tally n js y

pub tally-at : (n k : ℕ) (js : List ℕ) (y : List ℤ) → k < n
    → amount_at (tally n js y) k ≡ sum_at k js y
tally-at n k [] y lt = get_or-replicate n k (pos 0) (pos 0) lt
tally-at n k (j ∷ js) [] lt = get_or-replicate n k (pos 0) (pos 0) lt
tally-at n k (j ∷ js) (a ∷ y) lt =
    let r = tally-at n k js y lt in
    let len = length-tally n js y in
    ⊎_elim
    (λ (e : k ≡ j).
    let in_range : j < length (tally n js y) = omega (arith, len, e, lt) in
    let s = get_or-set_same (tally n js y) j (amount_at (tally n js y) j +ℤ a) (pos 0) in_range in
    let o = only-same j k a (sym e) in
    let q = ap (λ i. amount_at (tally n js y) i) e in
    let p = ap (λ i. amount_at (set (tally n js y) j (amount_at (tally n js y) j +ℤ a)) i) e in
    omega (arith, ints, r, s, o, q, p))
    (λ (ne : k ≡ j → ⊥).
    let s = get_or-set_other (tally n js y) j k (amount_at (tally n js y) j +ℤ a) (pos 0) ne in
    let o = only-other j k a (λ e. ne (sym e)) in
    omega (arith, ints, r, s, o))
    (cases_eq k j)

sum_over-nothing : (n : ℕ) (z : List Bool) → length z ≡ n → sum_over z (replicate n (pos 0)) ≡ pos 0
sum_over-nothing zero [] h = refl
sum_over-nothing zero (b ∷ z) h = absurd (omega arith)
sum_over-nothing (suc n) [] h = absurd (omega arith)
sum_over-nothing (suc n) (true ∷ z) h =
    let r = sum_over-nothing n z (omega arith) in omega (arith, ints, r)
sum_over-nothing (suc n) (false ∷ z) h =
    let r = sum_over-nothing n z (omega arith) in omega (arith, ints, r)

-- counted by numbers or by amounts, the sum over a set is the same
pub sum_over-tally : (n : ℕ) (z : List Bool) (js : List ℕ) (y : List ℤ) → length z ≡ n
    → ((e : ℕ) → e < length js → label_at js e < n) → sum_over z (tally n js y) ≡ sum_in z js y
sum_over-tally n z [] y same below = sum_over-nothing n z same
sum_over-tally n z (j ∷ js) [] same below = sum_over-nothing n z same
sum_over-tally n z (j ∷ js) (a ∷ y) same below =
    let r = sum_over-tally n z js y same (λ e lt. below (suc e) (omega arith)) in
    let lt = below 0 (omega arith) in
    let len = length-tally n js y in
    let s = sum_over-set z (tally n js y) j (amount_at (tally n js y) j +ℤ a)
    (omega (arith, same, len)) (omega (arith, len, lt)) in
    let p = share-add z j (amount_at (tally n js y) j) a in
    omega (arith, ints, r, s, p) where
      share-add : (z : List Bool) (j : ℕ) (a b : ℤ)
          → share z j (a +ℤ b) ≡ (share z j a +ℤ share z j b)
      share-add z j a b = at (get_or z j false) where
        at : (t : Bool) → (if t then (a +ℤ b) else pos 0)
            ≡ ((if t then a else pos 0) +ℤ (if t then b else pos 0))
        at true = refl
        at false = refl

-- ---- bounds

-- no amount is negative
abbrev pub AreAmounts : List ℤ → Type 0
AreAmounts y = (e : ℕ) → pos 0 ≤ℤ amount_at y e

pub sum_at-low : (k : ℕ) (js : List ℕ) (y : List ℤ) → AreAmounts y → pos 0 ≤ℤ sum_at k js y
sum_at-low k [] y low = omega (arith, ints)
sum_at-low k (j ∷ js) [] low = omega (arith, ints)
sum_at-low k (j ∷ js) (a ∷ y) low =
    let r = sum_at-low k js y (λ e. low (suc e)) in
    let h = only-low (nat_eq j k) a (low 0) in
    omega (arith, ints, r, h) where
      only-low : (t : Bool) (a : ℤ) → pos 0 ≤ℤ a → pos 0 ≤ℤ (if t then a else pos 0)
      only-low true a h = h
      only-low false a h = omega (arith, ints)

-- an amount is at most the sum of its number
pub sum_at-holds : (js : List ℕ) (y : List ℤ) (e : ℕ) → AreAmounts y → length y ≡ length js
    → e < length js → amount_at y e ≤ℤ sum_at (label_at js e) js y
sum_at-holds [] y e low same lt = absurd (omega arith)
sum_at-holds (j ∷ js) [] e low same lt = absurd (omega arith)
sum_at-holds (j ∷ js) (a ∷ y) zero low same lt =
    let r = sum_at-low j js y (λ e. low (suc e)) in
    let o = only-same j j a refl in
    omega (arith, ints, r, o)
sum_at-holds (j ∷ js) (a ∷ y) (suc e) low same lt =
    let r = sum_at-holds js y e (λ e. low (suc e)) (omega arith) (omega arith) in
    let h = only-low (nat_eq j (label_at js e)) a (low 0) in
    omega (arith, ints, r, h) where
      only-low : (t : Bool) (a : ℤ) → pos 0 ≤ℤ a → pos 0 ≤ℤ (if t then a else pos 0)
      only-low true a h = h
      only-low false a h = omega (arith, ints)

-- one more of the amounts
pub sum_at-drop : (k : ℕ) (js : List ℕ) (y : List ℤ) (e : ℕ) → length y ≡ length js → e < length js
    → sum_at k (drop e js) (drop e y)
    ≡ (only (label_at js e) k (amount_at y e) +ℤ sum_at k (drop (e + 1) js) (drop (e + 1) y))
sum_at-drop k js y e same lt =
    let ly : e < length y = omega arith in rw (drop_more js e 0 lt, drop_more y e (pos 0) ly) refl

-- each amount that one set counts is counted by the other
pub sum_in-le : (s z : List Bool) (js ks : List ℕ) (y : List ℤ) → length ks ≡ length js
    → AreAmounts y
    → ((e : ℕ) → e < length js → Has s (label_at js e) → Has z (label_at ks e))
    → sum_in s js y ≤ℤ sum_in z ks y
sum_in-le s z [] [] y same low h = omega (arith, ints)
sum_in-le s z [] (k ∷ ks) y same low h = absurd (omega arith)
sum_in-le s z (j ∷ js) [] y same low h = absurd (omega arith)
sum_in-le s z (j ∷ js) (k ∷ ks) [] same low h = omega (arith, ints)
sum_in-le s z (j ∷ js) (k ∷ ks) (a ∷ y) same low h =
    let r = sum_in-le s z js ks y (omega arith) (λ e. low (suc e))
    (λ e lt. h (suc e) (omega arith)) in
    let o = one (get_or s j false) (get_or z k false) (low 0) (h 0 (omega arith)) in
    omega (arith, ints, r, o) where
      one : (b c : Bool) → pos 0 ≤ℤ a → (b ≡ true → c ≡ true)
          → (if b then a else pos 0) ≤ℤ (if c then a else pos 0)
      one true true low f = omega (arith, ints)
      one true false low f = absurd (false≢true (f refl))
      one false true low f = low
      one false false low f = omega (arith, ints)

-- what the other set counts besides is zero: the sums are the same
pub sum_in-same : (s z : List Bool) (js ks : List ℕ) (y : List ℤ) → length ks ≡ length js
    → ((e : ℕ) → e < length js → Has s (label_at js e) → Has z (label_at ks e))
    → ((e : ℕ) → e < length js → Has z (label_at ks e) → get_or s (label_at js e) false ≡ false
    → amount_at y e ≡ pos 0) → sum_in s js y ≡ sum_in z ks y
sum_in-same s z [] [] y same h none = refl
sum_in-same s z [] (k ∷ ks) y same h none = absurd (omega arith)
sum_in-same s z (j ∷ js) [] y same h none = absurd (omega arith)
sum_in-same s z (j ∷ js) (k ∷ ks) [] same h none = refl
sum_in-same s z (j ∷ js) (k ∷ ks) (a ∷ y) same h none =
    let r = sum_in-same s z js ks y (omega arith) (λ e lt. h (suc e) (omega arith))
    (λ e lt. none (suc e) (omega arith)) in
    let o = one (get_or s j false) (get_or z k false) (h 0 (omega arith)) (none 0 (omega arith)) in
    omega (arith, ints, r, o) where
      one : (b c : Bool) → (b ≡ true → c ≡ true) → (c ≡ true → b ≡ false → a ≡ pos 0)
          → (if b then a else pos 0) ≡ (if c then a else pos 0)
      one true true f g = refl
      one true false f g = absurd (false≢true (f refl))
      one false true f g = sym (g refl refl)
      one false false f g = refl

-- ---- sums over two lists place by place

pub sum_over-le : (s : List Bool) (x y : List ℤ) → length s ≡ length x → length y ≡ length x
    → ((i : ℕ) → Has s i → amount_at x i ≤ℤ amount_at y i) → sum_over s x ≤ℤ sum_over s y
sum_over-le [] x y hx hy le = omega (arith, ints)
sum_over-le (b ∷ s) [] y hx hy le = absurd (omega arith)
sum_over-le (b ∷ s) (a ∷ x) [] hx hy le = absurd (omega arith)
sum_over-le (true ∷ s) (a ∷ x) (c ∷ y) hx hy le =
    let r = sum_over-le s x y (omega arith) (omega arith) (λ i. le (suc i)) in let f = le 0
    refl in omega (arith, ints, r, f)
sum_over-le (false ∷ s) (a ∷ x) (c ∷ y) hx hy le =
    let r = sum_over-le s x y (omega arith) (omega arith)
    (λ i. le (suc i)) in omega (arith, ints, r)

pub sum_over-lt : (s : List Bool) (x y : List ℤ) (i : ℕ) → length s ≡ length x → length y ≡ length x
    → ((i : ℕ) → Has s i → amount_at x i ≤ℤ amount_at y i) → Has s i
    → amount_at x i <ℤ amount_at y i → sum_over s x <ℤ sum_over s y
sum_over-lt [] x y i hx hy le has lt = absurd (false≢true has)
sum_over-lt (b ∷ s) [] y i hx hy le has lt = absurd (omega arith)
sum_over-lt (b ∷ s) (a ∷ x) [] i hx hy le has lt = absurd (omega arith)
sum_over-lt (true ∷ s) (a ∷ x) (c ∷ y) zero hx hy le has lt =
    let r = sum_over-le s x y (omega arith) (omega arith)
    (λ i. le (suc i)) in omega (arith, ints, r, lt)
sum_over-lt (false ∷ s) (a ∷ x) (c ∷ y) zero hx hy le has lt = absurd (false≢true has)
sum_over-lt (true ∷ s) (a ∷ x) (c ∷ y) (suc i) hx hy le has lt =
    let r = sum_over-lt s x y i (omega arith) (omega arith) (λ i. le (suc i)) has lt in let f = le 0
    refl in omega (arith, ints, r, f)
sum_over-lt (false ∷ s) (a ∷ x) (c ∷ y) (suc i) hx hy le has lt =
    let r = sum_over-lt s x y i (omega arith) (omega arith) (λ i. le (suc i)) has
    lt in omega (arith, ints, r)
