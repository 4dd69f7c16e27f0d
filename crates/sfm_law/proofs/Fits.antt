-- Sums and products of given numbers fit 128 bits.
use Rattle.std.proofs.Common.{◌≡◌, ◌≤◌, ◌*◌, ◌^◌, Bool, true, false, List, [], ◌∷◌, length, ℤ, pos, neg_ℤ, ◌+ℤ◌, ◌-ℤ◌, ◌*ℤ◌, ◌≤ℤ◌, ◌↔◌, nat_eq, IsTrue, sym, ap, ◌∙◌, to_z, of_z, arith, FitsSigned}
use Rattle.std.specs.List.{All}
use Rattle.std.proofs.lemmas.Int.{ints, fits_signed_mul, to_z-of_z}
use Rattle.std.proofs.Math.IntN.{*ℤ-zero}
use Rattle.std.proofs.lemmas.Bool.{eq-eqb, eqb-true}
use Rattle.std.proofs.lemmas.List.Elements.{All-head, All-tail}
use Rattle.sfm_spec.specs.Sets.{sum_over}
use Rattle.sfm_spec.proofs.Scaled.{times-mono}
use mir.Syntax.{w128}
use Rattle.sfm_spec.specs.Bounds.{IsAtMost, IsEntry, IsFactor, IsGiven}

pub given_fits : (a : ℤ) → IsGiven a → FitsSigned w128 a
given_fits a h = omega (arith, ints)

pub given_more : (a : ℤ) → IsGiven a → IsAtMost (10 ^ 21) a
given_more a h = record { low = omega (arith, ints); high = omega (arith, ints) }

pub factor_fits : (q : ℤ) → IsFactor q → FitsSigned w128 q
factor_fits q h = omega (arith, ints)

pub product_fits : (q a : ℤ) → IsFactor q → IsAtMost (10 ^ 21) a → FitsSigned w128 (q *ℤ a)
product_fits q a f h = fits_signed_mul w128 q a (10 ^ 6) (10 ^ 21) (omega (arith, ints))
    (omega (arith, ints)) (omega arith)

-- a factor times a number
pub product_small : (q a : ℤ) → IsFactor q → IsAtMost (10 ^ 21) a → IsAtMost (10 ^ 27) (q *ℤ a)
product_small q a f h =
    let above = times-mono q a (pos (10 ^ 21)) (omega (arith, ints)) h.high in
    let under = times-mono q (neg_ℤ (pos (10 ^ 21))) a (omega (arith, ints)) h.low in
    record { low = omega (arith, ints, under); high = omega (arith, ints, above) }

-- a factor times a number that is not negative
pub product_low : (q a : ℤ) → IsFactor q → pos 0 ≤ℤ a → pos 0 ≤ℤ (q *ℤ a)
product_low q a f low = let up = times-mono q (pos 0) a (omega (arith, ints)) low in let z = *ℤ-zero
    q in omega (arith, ints, up, z)

pub product_high : (q a : ℤ) → IsFactor q → IsGiven a → (q *ℤ a) ≤ℤ pos (10 ^ 24)
product_high q a f h = let up = times-mono q a (pos (10 ^ 18)) (omega (arith, ints))
    h.high in omega (arith, ints, up)

-- the entries of a set are at most 10^30 each
sum_over-small : (s : List Bool) (x : List ℤ) → All IsEntry x
    → (neg_ℤ (pos (10 ^ 30 * length x)) ≤ℤ sum_over s x)
    × (sum_over s x ≤ℤ pos (10 ^ 30 * length x))
sum_over-small [] x h = (omega (arith, ints), omega (arith, ints))
sum_over-small (b ∷ s) [] h = (omega (arith, ints), omega (arith, ints))
sum_over-small (true ∷ s) (y ∷ x) h = let a = All-head IsEntry y x h in let r = sum_over-small s x
    (All-tail IsEntry y x h) in (omega (arith, ints, a.low, r.0), omega (arith, ints, a.high, r.1))
sum_over-small (false ∷ s) (y ∷ x) h =
    let r = sum_over-small s x (All-tail IsEntry y x h) in (
      omega (arith, ints, r.0),
      omega (arith, ints, r.1),
    )

pub share_small : (s : List Bool) (x : List ℤ) → length x ≤ 256 → All IsEntry x
    → IsAtMost (10 ^ 33) (sum_over s x)
share_small s x few h = let r = sum_over-small s x
    h in record { low = omega (arith, ints, few, r.0); high = omega (arith, ints, few, r.1) }

pub difference_fits : (a b : ℤ) → IsAtMost (10 ^ 27) a → IsAtMost (10 ^ 33) b
    → FitsSigned w128 (a -ℤ b)
difference_fits a b g h = omega (arith, ints)

pub at_most_more : (a : ℤ) → IsAtMost (10 ^ 27) a → IsAtMost (10 ^ 33) a
at_most_more a h = record { low = omega (arith, ints); high = omega (arith, ints) }

pub share_fits : (a : ℤ) → IsAtMost (10 ^ 33) a → FitsSigned w128 a
share_fits a h = omega (arith, ints)

pub more_fits : (a b : ℤ) → IsAtMost (10 ^ 33) a → IsEntry b → FitsSigned w128 (a +ℤ b)
more_fits a b g h = omega (arith, ints)

pub less_fits : (a b : ℤ) → IsAtMost (10 ^ 33) a → IsEntry b → FitsSigned w128 (a -ℤ b)
less_fits a b g h = omega (arith, ints)

pub given_difference_fits : (a b : ℤ) → IsGiven a → IsGiven b → FitsSigned w128 (a -ℤ b)
given_difference_fits a b g h = omega (arith, ints)

pub is_zero : (a : ℤ) → FitsSigned w128 a → IsTrue (nat_eq (of_z w128 a) 0) ↔ (a ≡ pos 0)
is_zero a f = (
  (λ t. sym (to_z-of_z w128 a f) ∙ ap (to_z w128) (eqb-true (of_z w128 a) 0 t)),
  (λ e. eq-eqb (of_z w128 a) 0 (ap (of_z w128) e)),
)

pub rank_small : (w r : ℤ) → pos 0 ≤ℤ w → IsGiven w → pos 0 ≤ℤ r → r ≤ℤ pos 256
    → IsAtMost (10 ^ 21) (w *ℤ r)
rank_small w r hw given low high =
    let up = times-mono w r (pos 256) hw high in
    let under = times-mono w (pos 0) r hw low in
    record { low = omega (arith, ints, under); high = omega (arith, ints, up) }

pub rank_fits : (a : ℤ) → IsAtMost (10 ^ 21) a → FitsSigned w128 a
rank_fits a h = omega (arith, ints)

pub product_left_fits : (q w b : ℤ) → IsFactor q → IsGiven w → IsEntry b
    → FitsSigned w128 ((q *ℤ w) -ℤ b)
product_left_fits q w b f h g =
    less_fits _ _ (at_most_more _ (product_small q w f (given_more w h))) g
