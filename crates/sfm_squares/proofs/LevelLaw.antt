-- Bases that prove at each whole slope add up to a most level base of the sum.
use Rattle.std.proofs.Common.{◌≡◌, ℕ, zero, suc, ◌<◌, Bool, true, false, List, [], ◌∷◌, length, get_or, replicate, ℤ, pos, ◌+ℤ◌, ◌-ℤ◌, ◌≤ℤ◌, if◌then◌else◌, refl, sym, ap, ◌∙◌, arith}
use Rattle.std.specs.Int.{int_min}
use Rattle.std.proofs.lemmas.Int.{ints, clamps}
use Rattle.std.proofs.lemmas.List.{length-replicate, get_or-replicate}
use Rattle.sfm_spec.specs.Sets.{sum_over, whole_set}
use Rattle.sfm_spec.specs.Families.{Meaning, AreTerms, AreBases, IsAllowed, Prove, sum_at, shifted_at, base_sum_at, rest_at, deficit, even_shift}
use Rattle.sfm_spec.proofs.Where.{sum_where, sum_where-zero, sum_where-same, sum_where-less}
use Rattle.sfm_spec.proofs.Duality.{parts_sum, sum_where-rows, parts_below, tight_sum}
use Rattle.sfm_spec.proofs.Walks.{closed_tight_set, step_below}
use Rattle.sfm_spec.proofs.Sets.{Has-whole}
use Rattle.sfm_squares.specs.Level.{IsSumBase, IsLevel, IsSumOf, squares}
use Rattle.sfm_squares.proofs.Squares.{low, total, squares_by_slopes}

-- the sum of all entries
pub total-whole : (y : List ℤ) → total y ≡ sum_over (whole_set (length y)) y
total-whole [] = refl
total-whole (a ∷ y) = let r = total-whole y in omega (arith, ints, r)

-- what lacks to t is at most what any set has over it
low-below : (t : ℤ) (s : List Bool) (y : List ℤ) → length s ≡ length y
    → low t y ≤ℤ (sum_over s y -ℤ sum_over s (replicate (length y) t))
low-below t [] [] h = omega (arith, ints)
low-below t [] (a ∷ y) h = absurd (omega arith)
low-below t (b ∷ s) [] h = absurd (omega arith)
low-below t (true ∷ s) (a ∷ y) h =
    let r = low-below t s y (omega arith) in omega (arith, ints, clamps, r)
low-below t (false ∷ s) (a ∷ y) h =
    let r = low-below t s y (omega arith) in omega (arith, ints, clamps, r)

-- what a base of the sum lacks to t is at most what any allowed set is worth less t a member
base-under : (terms : List Meaning) (n : ℕ) (y : List ℤ) → IsSumBase terms n y
    → (t : ℤ) (s : List Bool) → length s ≡ n → IsAllowed terms s
    → low t y ≤ℤ shifted_at terms (pos 1) (even_shift n t) s
base-under terms n y base t s places allowed =
    let l = rw base.places at (low-below t s y (places ∙ sym base.places)) in
    let w = base.within s places allowed in
    omega (arith, ints, l, w)

deficit-same : (n : ℕ) (g h : ℕ → ℤ) → ((e : ℕ) → e < n → g e ≡ h e) → deficit n g ≡ deficit n h
deficit-same zero g h same = refl
deficit-same (suc n) g h same =
    let r = deficit-same n (λ e. g (suc e)) (λ e. h (suc e))
    (λ e l. same (suc e) (omega (arith, l))) in
    let o = ap (λ z. int_min z (pos 0)) (same 0 (omega arith)) in
    omega (arith, ints, r, o)

low-deficit : (t : ℤ) (z : List ℤ) → low t z ≡ deficit (length z) (λ e. get_or z e (pos 0) -ℤ t)
low-deficit t [] = refl
low-deficit t (a ∷ z) = let r = low-deficit t z in omega (arith, ints, r)

-- what the sum lacks to t is the deficit at the shift of t everywhere
low-rest : (terms : List Meaning) (n : ℕ) (bases : List (List ℤ)) (z : List ℤ)
    → IsSumOf terms n bases z → (t : ℤ) → low t z ≡ deficit n (rest_at terms bases (even_shift n t))
low-rest terms n bases z sum t = low-deficit t z
    ∙ (ap (λ k. deficit k (λ e. get_or z e (pos 0) -ℤ t)) sum.places
    ∙ deficit-same n _ _ same) where
      same : (e : ℕ) → e < n → (get_or z e (pos 0) -ℤ t) ≡ rest_at terms bases (even_shift n t) e
      same e l =
          let x = sum.exact e l in
          let r : get_or (replicate n t) e (pos 0) ≡ t = get_or-replicate n e t (pos 0) l in
          omega (arith, ints, x, r)

-- bases that prove at each whole slope add up to a most level base
pub level_by_slopes : (terms : List Meaning) (n : ℕ) (bases : List (List ℤ)) (z : List ℤ)
    → IsSumBase terms n z → IsSumOf terms n bases z
    → ((t : ℤ) → Prove terms n (pos 1) (even_shift n t) bases) → IsLevel terms n z
level_by_slopes terms n bases z base sum prove = record { base = base; least = least } where
  least : (y : List ℤ) → IsSumBase terms n y → squares z ≤ℤ squares y
  least y other = squares_by_slopes y z (other.places ∙ sym base.places) totals less where
    totals : total y ≡ total z
    totals =
        let p = total-whole y in
        let q = total-whole z in
        let a = rw other.places at p in
        let b = rw base.places at q in
        a ∙ (other.total ∙ (sym base.total ∙ sym b))

    less : (t : ℤ) → low t y ≤ℤ low t z
    less t =
        let (s, m, same) = prove t in
        let u = base-under terms n y other t s m.places m.allowed in
        let r = low-rest terms n bases z sum t in
        omega (arith, ints, u, same, r)

pub sum_over-where : (s : List Bool) (z : List ℤ)
    → sum_over s z ≡ sum_where s (λ e. get_or z e (pos 0))
sum_over-where s z =
    let l = sum_where-less s (λ e. get_or z e (pos 0)) z in
    let o = sum_where-same s (λ e. get_or z e (pos 0) -ℤ get_or z e (pos 0)) (λ e. pos 0)
    (λ e. omega (arith, ints)) in
    let n = sum_where-zero s in
    omega (arith, ints, l, o, n)

pub sum_where-below : (s : List Bool) (g h : ℕ → ℤ) → ((e : ℕ) → e < length s → g e ≡ h e)
    → sum_where s g ≡ sum_where s h
sum_where-below [] g h same = refl
sum_where-below (b ∷ s) g h same =
    ap (λ y. (if b then y else pos 0) +ℤ sum_where s (λ e. g (suc e))) (same 0 (omega arith))
    ∙ ap (λ y. (if b then h 0 else pos 0) +ℤ y)
    (sum_where-below s (λ e. g (suc e)) (λ e. h (suc e)) (λ e l. same (suc e) (omega arith)))

-- what bases of the terms add up to is a base of the sum
pub sum_is_base : (terms : List Meaning) (n : ℕ) (bases : List (List ℤ)) (z : List ℤ)
    → AreTerms n terms → AreBases (pos 1) terms bases → IsSumOf terms n bases z
    → IsSumBase terms n z
sum_is_base terms n bases z fit rows sum =
    record { places = sum.places; within = within; total = total_is } where
      parts : (s : List Bool) → length s ≡ n → sum_over s z ≡ parts_sum terms bases s
      parts s places = sum_over-where s z
          ∙ (sum_where-below s _ (base_sum_at terms bases) (λ e l. sum.exact e (rw places at l))
          ∙ sum_where-rows s terms bases (rw places fit))

      within : (s : List Bool) → length s ≡ n → IsAllowed terms s → sum_over s z ≤ℤ sum_at terms s
      within s places allowed = let p = parts s places in let b = parts_below (pos 1) terms bases s
          rows
          allowed in omega (arith, ints, p, b)

      total_is : sum_over (whole_set n) z ≡ sum_at terms (whole_set n)
      total_is =
          let places : length (whole_set n) ≡ n = length-replicate n true in
          let tight = closed_tight_set terms bases n (pos 1) (omega (arith, ints)) fit rows
          (whole_set n) (λ from step is has.
          Has-whole n step.to (step_below terms bases n (pos 1) (omega (arith, ints)) fit rows from
          step is)) in
          let (_, t) = tight_sum (pos 1) terms bases (whole_set n) tight in
          let p = parts (whole_set n) places in
          omega (arith, ints, p, t)
