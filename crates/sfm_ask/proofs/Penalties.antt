-- What a set pays for the pins that it breaks, and what the shift of pins comes to on a set.
use Rattle.std.proofs.Common.{◌≡◌, ◌⊎◌, ℕ, zero, suc, ◌+◌, Bool, true, false, List, [], ◌∷◌, length, ℤ, pos, ◌+ℤ◌, ◌-ℤ◌, ◌*ℤ◌, ◌≤ℤ◌, if◌then◌else◌, inl, inr, ⊎_elim, refl, ap, ◌∙◌, arith}
use Rattle.std.proofs.lemmas.Int.{ints}
use Rattle.sfm_spec.specs.Sets.{Has, IsWithin, size, sum_over}
use Rattle.sfm_spec.proofs.Scaled.{times-add}
use Rattle.sfm_spec.proofs.Where.{size-cons}
use Rattle.sfm_ask.specs.Shifts.{shift_of_pins}

-- the set has every element that must be in, and none that must be out
pub record Keeps (inside outside s : List Bool) : Type 0 where
  pub has : IsWithin inside s
  pub lacks : (e : ℕ) → Has outside e → Has s e → ⊥

no-element : (e : ℕ) → Has [] e → ⊥
no-element zero h = cc
no-element (suc e) h = cc

keeps-cons : (is_in is_out b : Bool) (inside outside s : List Bool)
    → (is_in ≡ true → b ≡ true) → (is_out ≡ true → b ≡ true → ⊥) → Keeps inside outside s
    → Keeps (is_in ∷ inside) (is_out ∷ outside) (b ∷ s)
keeps-cons is_in is_out b inside outside s first last k = record { has = has; lacks = lacks } where
  has : IsWithin (is_in ∷ inside) (b ∷ s)
  has zero h = first h
  has (suc e) h = k.has e h

  lacks : (e : ℕ) → Has (is_out ∷ outside) e → Has (b ∷ s) e → ⊥
  lacks zero h g = last h g
  lacks (suc e) h g = k.lacks e h g

keeps-tail : (is_in is_out b : Bool) (inside outside s : List Bool)
    → Keeps (is_in ∷ inside) (is_out ∷ outside) (b ∷ s) → Keeps inside outside s
keeps-tail is_in is_out b inside outside s k =
    record { has = λ e. k.has (suc e); lacks = λ e. k.lacks (suc e) }

-- m where the flag holds
abbrev pub flagged : ℤ → Bool → ℤ
flagged m b = if b then m else pos 0

-- m for each element that must be in
abbrev pub promised : ℤ → List Bool → ℤ
promised m [] = pos 0
promised m (is_in ∷ inside) = flagged m is_in +ℤ promised m inside

-- m for each pin that the set breaks
abbrev pub broken : ℤ → List Bool → List Bool → List Bool → ℤ
broken m (is_in ∷ inside) (is_out ∷ outside) (true ∷ s) =
    flagged m is_out +ℤ broken m inside outside s
broken m (is_in ∷ inside) (is_out ∷ outside) (false ∷ s) =
    flagged m is_in +ℤ broken m inside outside s
broken m inside outside s = pos 0

none-more : (k : ℕ) → 0 + k ≡ k
none-more k = omega arith

module _ (m : ℤ) where
  -- the shift of a set is m for each element that must be in, less m for each pin that it breaks
  pub shift-is : (inside outside s : List Bool) → length inside ≡ length s
      → length outside ≡ length s
      → sum_over s (shift_of_pins m inside outside)
      ≡ (promised m inside -ℤ broken m inside outside s)
  shift-is [] outside [] i o = omega (arith, ints)
  shift-is [] outside (b ∷ s) i o = absurd (omega (arith, i))
  shift-is (is_in ∷ inside) outside [] i o = absurd (omega (arith, i))
  shift-is (is_in ∷ inside) [] (b ∷ s) i o = absurd (omega (arith, o))
  shift-is (is_in ∷ inside) (is_out ∷ outside) (true ∷ s) i o =
      let r = shift-is inside outside s (omega (arith, i)) (omega (arith, o)) in
      omega (arith, ints, r)
  shift-is (is_in ∷ inside) (is_out ∷ outside) (false ∷ s) i o =
      let r = shift-is inside outside s (omega (arith, i)) (omega (arith, o)) in
      omega (arith, ints, r)

  -- what is promised is m times the number of elements that must be in
  pub promised-is : (inside : List Bool) → promised m inside ≡ (m *ℤ pos (size inside))
  promised-is [] = omega (arith, ints)
  promised-is (true ∷ inside) =
      let r = promised-is inside in
      let e = times-add m (pos 1) (pos (size inside)) in
      let c : pos (size (true ∷ inside)) ≡ (pos 1 +ℤ pos (size inside))
      = ap pos (size-cons true inside) in
      rw c (omega (arith, ints, r, e))
  promised-is (false ∷ inside) =
      let r = promised-is inside in
      let c = size-cons false inside in
      omega (arith, ints, r, ap (λ k. m *ℤ pos k) (c ∙ none-more (size inside)))

  module _ (low : pos 0 ≤ℤ m) where
    flagged-low : (b : Bool) → pos 0 ≤ℤ flagged m b
    flagged-low true = low
    flagged-low false = omega (arith, ints)

    pub broken-low : (inside outside s : List Bool) → pos 0 ≤ℤ broken m inside outside s
    broken-low [] outside s = omega (arith, ints)
    broken-low (is_in ∷ inside) [] s = omega (arith, ints)
    broken-low (is_in ∷ inside) (is_out ∷ outside) [] = omega (arith, ints)
    broken-low (is_in ∷ inside) (is_out ∷ outside) (true ∷ s) =
        let r = broken-low inside outside s in
        let f = flagged-low is_out in
        omega (arith, ints, r, f)
    broken-low (is_in ∷ inside) (is_out ∷ outside) (false ∷ s) =
        let r = broken-low inside outside s in
        let f = flagged-low is_in in
        omega (arith, ints, r, f)

    -- a set that breaks a pin pays at least once
    pub keeps-or-pays : (inside outside s : List Bool) → length inside ≡ length s
        → length outside ≡ length s → Keeps inside outside s ⊎ (m ≤ℤ broken m inside outside s)
    keeps-or-pays [] [] [] i o = inl (record { has = λ e h. h; lacks = λ e h k. no-element e h })
    keeps-or-pays [] (is_out ∷ outside) [] i o = absurd (omega (arith, o))
    keeps-or-pays [] outside (b ∷ s) i o = absurd (omega (arith, i))
    keeps-or-pays (is_in ∷ inside) outside [] i o = absurd (omega (arith, i))
    keeps-or-pays (is_in ∷ inside) [] (b ∷ s) i o = absurd (omega (arith, o))
    keeps-or-pays (is_in ∷ inside) (true ∷ outside) (true ∷ s) i o =
        let r = broken-low inside outside s in
        inr (omega (arith, ints, r))
    keeps-or-pays (true ∷ inside) (is_out ∷ outside) (false ∷ s) i o =
        let r = broken-low inside outside s in
        inr (omega (arith, ints, r))
    keeps-or-pays (is_in ∷ inside) (false ∷ outside) (true ∷ s) i o =
        ⊎_elim (λ k. inl (keeps-cons is_in false true inside outside s (λ h. refl)
        (λ h g. cc) k))
        (λ p. inr (omega (arith, ints, p)))
        (keeps-or-pays inside outside s (omega (arith, i)) (omega (arith, o)))
    keeps-or-pays (false ∷ inside) (is_out ∷ outside) (false ∷ s) i o =
        ⊎_elim (λ k. inl (keeps-cons false is_out false inside outside s (λ h. h)
        (λ h g. cc) k))
        (λ p. inr (omega (arith, ints, p)))
        (keeps-or-pays inside outside s (omega (arith, i)) (omega (arith, o)))

  -- a set that breaks none pays nothing
  pub keeps-free : (inside outside s : List Bool) → Keeps inside outside s
      → broken m inside outside s ≡ pos 0
  keeps-free [] outside s k = refl
  keeps-free (is_in ∷ inside) [] s k = refl
  keeps-free (is_in ∷ inside) (is_out ∷ outside) [] k = refl
  keeps-free (is_in ∷ inside) (true ∷ outside) (true ∷ s) k = absurd (k.lacks 0 refl refl)
  keeps-free (is_in ∷ inside) (false ∷ outside) (true ∷ s) k =
      let r = keeps-free inside outside s (keeps-tail is_in false true inside outside s k) in
      omega (arith, ints, r)
  keeps-free (true ∷ inside) (is_out ∷ outside) (false ∷ s) k =
      (let no : false ≡ true = k.has 0 refl in cc)
  keeps-free (false ∷ inside) (is_out ∷ outside) (false ∷ s) k =
      let r = keeps-free inside outside s (keeps-tail false is_out false inside outside s k) in
      omega (arith, ints, r)
