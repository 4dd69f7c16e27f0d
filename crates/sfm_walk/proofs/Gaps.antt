-- How far below 0 the sum of min(z, 0) can be: not farther than the magnitudes of all entries and
-- shifts in all.
use Rattle.std.proofs.Common.{◌≡◌, ⊎_elim, ℕ, zero, suc, ◌+◌, ◌*◌, ◌^◌, ◌<◌, ◌≤◌, List, [], ◌∷◌, length, map, sum, get_or, nat_eq, ℤ, pos, negsuc, neg_ℤ, nat_abs, ◌+ℤ◌, ◌≤ℤ◌, ◌<ℤ◌, if◌then◌else◌, refl, sym, ap, ◌∙◌, arith}
use Rattle.std.specs.List.{All}
use Rattle.std.specs.Int.{int_min}
use Rattle.std.proofs.Math.Nat.{mul-le-mul_left}
use Rattle.std.proofs.lemmas.Bool.{cases_eq, eq-eqb, ne_eqb}
use Rattle.std.proofs.lemmas.Int.{ints, clamps}
use Rattle.std.proofs.lemmas.List.Elements.{All-head, All-tail}
use Rattle.std.proofs.lemmas.List.Sums.{sum_by-cons}
use Rattle.sfm_spec.specs.Sets.{magnitudes}
use Rattle.sfm_spec.specs.Bounds.{IsAtMost}
use Rattle.sfm_spec.specs.Terms.{SetFunction}
use Rattle.sfm_spec.specs.Families.{meanings, entry_at, base_sum_at, rest_at, deficit}

deficit-same : (n : ℕ) (f g : ℕ → ℤ) → ((e : ℕ) → f e ≡ g e) → deficit n f ≡ deficit n g
deficit-same zero f g h = refl
deficit-same (suc n) f g h = let r = deficit-same n (λ e. f (suc e)) (λ e. g (suc e))
    (λ e. h (suc e)) in let k = ap (λ y. int_min y (pos 0))
    (h 0) in ap (λ y. y +ℤ deficit n (λ e. f (suc e))) k ∙ ap (λ y. int_min (g 0) (pos 0) +ℤ y) r

deficit-zero : (n : ℕ) → pos 0 ≤ℤ deficit n (λ e. pos 0)
deficit-zero zero = omega (arith, ints)
deficit-zero (suc n) = let r = deficit-zero n in omega (arith, ints, clamps, r)

deficit-add : (n : ℕ) (f g : ℕ → ℤ) → (deficit n f +ℤ deficit n g) ≤ℤ deficit n (λ e. f e +ℤ g e)
deficit-add zero f g = omega (arith, ints)
deficit-add (suc n) f g = let r = deficit-add n (λ e. f (suc e))
    (λ e. g (suc e)) in omega (arith, ints, clamps, r)

-- one entry
single-low : (n p : ℕ) (a b : ℤ) → pos 0 ≤ℤ b → neg_ℤ b ≤ℤ a
    → neg_ℤ b ≤ℤ deficit n (λ e. if nat_eq p e then a else pos 0)
single-low zero p a b low h = omega (arith, ints, low)
single-low (suc n) zero a b low h =
    let z = deficit-zero n in
    let s = deficit-same n (λ e. if nat_eq 0 (suc e) then a else pos 0) (λ e. pos 0)
    (λ e. rw (ne_eqb 0 (suc e) (λ q. absurd (omega (arith, q)))) refl) in
    omega (arith, ints, clamps, z, s, low, h)
single-low (suc n) (suc p) a b low h =
    let r = single-low n p a b low h in
    let s = deficit-same n (λ e. if nat_eq (suc p) (suc e) then a else pos 0)
    (λ e. if nat_eq p e then a else pos 0) (λ e. ap (λ y. if y then a else pos 0) (both e)) in
    let no' = ne_eqb (suc p) 0 (λ q. absurd (omega (arith, q))) in
    rw no' (omega (arith, ints, clamps, r, s)) where
      both : (e : ℕ) → nat_eq (suc p) (suc e) ≡ nat_eq p e
      both e = ⊎_elim (λ s. eq-eqb (suc p) (suc e) (ap suc s) ∙ sym (eq-eqb p e s))
          (λ ne. ne_eqb (suc p) (suc e) (λ s. ne (omega (arith, s))) ∙ sym (ne_eqb p e ne))
          (cases_eq p e)

-- the entries of one row
entries-low : (m n : ℕ) (places : List ℕ) (x : List ℤ) → All (IsAtMost m) x
    → neg_ℤ (pos (m * length places)) ≤ℤ deficit n (entry_at places x)
entries-low m n [] x h = let z = deficit-zero n in let s = deficit-same n (entry_at [] x)
    (λ e. pos 0) (λ e. refl) in omega (arith, ints, z, s)
entries-low m n (p ∷ places) [] h =
    let z = deficit-zero n in let s = deficit-same n (entry_at (p ∷ places) []) (λ e. pos 0)
    (λ e. refl) in omega (arith, ints, z, s)
entries-low m n (p ∷ places) (a ∷ x) h =
    let ha = All-head (IsAtMost m) a x h in
    let r = entries-low m n places x (All-tail (IsAtMost m) a x h) in
    let one = single-low n p a (pos m) (omega (arith, ints)) ha.low in
    let d = deficit-add n (λ e. if nat_eq p e then a else pos 0) (entry_at places x) in
    let s = deficit-same n (entry_at (p ∷ places) (a ∷ x))
    (λ e. (if nat_eq p e then a else pos 0) +ℤ entry_at places x e) (λ e. refl) in
    omega (arith, ints, r, one, d, s)

-- the rows of all terms
rows-low : {X : Type 0} (m n : ℕ) (places : X → List ℕ) (value : X → SetFunction) (xs : List X)
    (rows : List (List ℤ)) → All (λ x. All (IsAtMost m) x) rows
    → neg_ℤ (pos (m * sum (map length (map places xs)))) ≤ℤ deficit n
    (base_sum_at (meanings places value xs) rows)
rows-low m n places value [] rows h =
    let z = deficit-zero n in let s = deficit-same n (base_sum_at [] rows) (λ e. pos 0)
    (λ e. refl) in omega (arith, ints, z, s)
rows-low m n places value (y ∷ xs) [] h =
    let z = deficit-zero n in let s = deficit-same n
    (base_sum_at (meanings places value (y ∷ xs)) []) (λ e. pos 0)
    (λ e. refl) in omega (arith, ints, z, s)
rows-low m n places value (y ∷ xs) (x ∷ rows) h =
    let one = entries-low m n (places y) x (All-head (λ x. All (IsAtMost m) x) x rows h) in
    let r = rows-low m n places value xs rows (All-tail (λ x. All (IsAtMost m) x) x rows h) in
    let d = deficit-add n (entry_at (places y) x) (base_sum_at (meanings places value xs) rows) in
    let s = deficit-same n (base_sum_at (meanings places value (y ∷ xs)) (x ∷ rows))
    (λ e. entry_at (places y) x e +ℤ base_sum_at (meanings places value xs) rows e)
    (λ e. refl) in
    let total : sum (map length (map places (y ∷ xs))) ≡ length (places y) + sum
    (map length (map places xs)) =
    sum_by-cons (λ n. n) (length (places y)) (map length (map places xs)) in
    let all : m * sum (map length (map places (y ∷ xs))) ≡ m
    * (length (places y) + sum (map length (map places xs))) = ap (λ k. m * k) total in
    omega (arith, ints, one, r, d, s, all)

-- the shift
shift-low : (shift : List ℤ) → neg_ℤ (magnitudes shift) ≤ℤ deficit (length shift)
    (λ e. neg_ℤ (get_or shift e (pos 0)))
shift-low [] = omega (arith, ints)
shift-low (pos k ∷ shift) = let r = shift-low shift in omega (arith, ints, clamps, r)
shift-low (negsuc k ∷ shift) = let r = shift-low shift in omega (arith, ints, clamps, r)

-- the sum of min(z, 0), where no entry is above m in magnitude
pub deficit_by : {X : Type 0} (m s : ℕ) (places : X → List ℕ) (value : X → SetFunction)
    (xs : List X) (rows : List (List ℤ)) (shift : List ℤ) → All (λ x. All (IsAtMost m) x) rows
    → sum (map length (map places xs)) ≤ 16384
    → magnitudes shift ≤ℤ pos s → neg_ℤ (pos (16384 * m + s)) ≤ℤ deficit (length shift)
    (rest_at (meanings places value xs) rows shift)
deficit_by m s places value xs rows shift h few small =
    let n = length shift in
    let r = rows-low m n places value xs rows h in
    let low = shift-low shift in
    let d = deficit-add n (base_sum_at (meanings places value xs) rows)
    (λ e. neg_ℤ (get_or shift e (pos 0))) in
    let k = deficit-same n (rest_at (meanings places value xs) rows shift)
    (λ e. base_sum_at (meanings places value xs) rows e +ℤ neg_ℤ (get_or shift e (pos 0)))
    (λ e. omega (arith, ints)) in
    let all = mul-le-mul_left m few in
    omega (arith, ints, r, low, d, k, all, small)

-- the same of entries and shifts as they begin
pub deficit_low : {X : Type 0} (places : X → List ℕ) (value : X → SetFunction) (xs : List X)
    (rows : List (List ℤ)) (shift : List ℤ) → All (λ x. All (IsAtMost (10 ^ 25)) x) rows
    → sum (map length (map places xs)) ≤ 16384
    → magnitudes shift ≤ℤ pos (10 ^ 27)
    → neg_ℤ (pos (4 * 10 ^ 29)) ≤ℤ deficit (length shift)
    (rest_at (meanings places value xs) rows shift)
deficit_low places value xs rows shift h few small =
    let d = deficit_by (10 ^ 25) (10 ^ 27) places value xs rows shift h few small in
    omega (arith, ints, d)

-- what rises towards 0 has a lesser magnitude
pub abs_falls : (a b : ℤ) → a <ℤ b → b ≤ℤ pos 0 → nat_abs b < nat_abs a
abs_falls a b less low = omega (arith, ints, less, low)
