-- The number of a line, counted from 1, and its place, counted from 0.
use Rattle.std.proofs.Common.{◌≡◌, ℕ, ◌+◌, ◌<◌, ◌^◌, List, Option, Some, None, ℤ, pos, negsuc, nat_abs, true, false, ◌-ℤ◌, ◌≤ℤ◌, to_z, of_z, refl, sym, subst, ◌∙◌, arith}
use Rattle.std.specs.Prelude.{◌↔◌}
use Rattle.std.proofs.lemmas.Int.{ints, to_z-of_z, to_z_pos}
use Rattle.std.proofs.lemmas.Option.{same_Some}
use lib.Signed.{lt_z}
use mir.Syntax.{w128}
use Rattle.sfm_spec.specs.Bounds.{IsEntry}
use Rattle.sfm_base.specs.NumberText.{IsNumber}
use Rattle.sfm_edit.specs.Edits.{IsLineNumber}

-- what a reader of numbers tells of a text
abbrev pub TellsNumber : List ℕ → Option ℤ → Type 0
TellsNumber text told = (a : ℤ) → (told ≡ Some a) ↔ (IsNumber text a × IsEntry a)

-- what is not negative is its magnitude
abs-is : (a : ℤ) → pos 0 ≤ℤ a → pos (nat_abs a) ≡ a
abs-is (pos k) low = refl
abs-is (negsuc k) low = absurd (omega (arith, ints, low))

module _ (text : List ℕ) (told : Option ℤ) (tells : TellsNumber text told) (count : ℕ)
    (few : count < 2 ^ 64) where
  -- the number of a line is told
  told-line : (i : ℕ) → IsLineNumber count text i → told ≡ Some (pos (i + 1))
  told-line i (lt, number) = (tells (pos (i + 1))).1
      (number, record { low = omega (arith, ints); high = omega (arith, ints, lt, few) })

  -- where nothing is told, it is the number of no line
  pub untold : told ≡ None → (i : ℕ) → IsLineNumber count text i → ⊥
  untold none i h = let both : None ≡ Some (pos (i + 1)) = sym none ∙ told-line i h in absurd (cc)

  module _ (number : ℤ) (is : told ≡ Some number) where
    line-is : (i : ℕ) → IsLineNumber count text i → number ≡ pos (i + 1)
    line-is i h = same_Some number (pos (i + 1)) (sym is ∙ told-line i h)

    entry : IsEntry number
    entry = ((tells number).0 is).1

    kept-number : to_z w128 (of_z w128 number) ≡ number
    kept-number = to_z-of_z w128 number (omega (arith, ints, entry.low, entry.high))

    kept-count : to_z w128 count ≡ pos count
    kept-count = to_z_pos w128 count (omega (arith, few))

    -- a number below 1 or above the count is that of no line
    pub too-low : lt_z (to_z w128 (of_z w128 number)) (pos 1) ≡ true → (i : ℕ)
        → IsLineNumber count text i → ⊥
    too-low low i h = let less : lt_z number (pos 1) ≡ true = rw kept-number at
        low in omega (arith, ints, less, line-is i h)

    pub too-high : lt_z (to_z w128 count) (to_z w128 (of_z w128 number)) ≡ true → (i : ℕ)
        → IsLineNumber count text i → ⊥
    too-high high i h =
        let more : lt_z (pos count) number ≡ true = rw (kept-number, kept-count) at high in
        omega (arith, ints, more, line-is i h, h.0)

    -- any other is that of a line
    pub in-range : lt_z (to_z w128 (of_z w128 number)) (pos 1) ≡ false
        → lt_z (to_z w128 count) (to_z w128 (of_z w128 number)) ≡ false
        → IsLineNumber count text (nat_abs
        (to_z w128 (of_z w128 (to_z w128 (of_z w128 number) -ℤ pos 1))))
    in-range low high =
        let least : lt_z number (pos 1) ≡ false = rw kept-number at low in
        let most : lt_z (pos count) number ≡ false = rw (kept-number, kept-count) at high in
        let less : to_z w128 (of_z w128 (number -ℤ pos 1)) ≡ (number -ℤ pos 1) = to_z-of_z w128
        (number -ℤ pos 1) (omega (arith, ints, entry.low, entry.high)) in
        let place : pos (nat_abs (number -ℤ pos 1)) ≡ (number -ℤ pos 1) = abs-is (number -ℤ pos 1)
        (omega (arith, ints, least)) in
        let next : pos (nat_abs (number -ℤ pos 1) + 1) ≡ number = omega (arith, ints, place) in
        rw (kept-number, less) (
          omega (arith, ints, place, most),
          subst (IsNumber text) (sym next) ((tells number).0 is).0,
        )
