-- Numbers that fit, as they are passed on in 128 bits.
use Rattle.std.proofs.Common.{◌≡◌, ◌∙◌, ◌≤◌, ◌^◌, ℕ, Bool, List, length, ℤ, pos, ◌*ℤ◌, ◌≤ℤ◌, to_z, of_z, sym, subst, arith, FitsSigned}
use Rattle.std.specs.List.{All}
use Rattle.std.proofs.lemmas.Int.{ints, to_z-of_z}
use mir.Syntax.{w128}
use Rattle.sfm_spec.specs.Bounds.{IsAtMost, IsEntry, IsFactor, IsGiven}
use Rattle.sfm_law.proofs.Fits.{given_fits, given_more, product_fits, rank_fits}
use Rattle.sfm_assign.specs.Splits.{IsCapacity}
use Rattle.sfm_matroid.specs.Amounts.{CanAdd, CanWeigh, IsWeight}
use Rattle.sfm_matroid.proofs.Fits.{product_is}

pub factor_fits : (q : ℤ) → IsFactor q → FitsSigned w128 q
factor_fits q f = omega (arith, ints)

pub factor_passed : (q : ℤ) → IsFactor q → IsFactor (to_z w128 (of_z w128 q))
factor_passed q f = subst IsFactor (sym (to_z-of_z w128 q (factor_fits q f))) f

pub given_passed : (w : ℤ) → IsGiven w → IsGiven (to_z w128 (of_z w128 w))
given_passed w given = subst IsGiven (sym (to_z-of_z w128 w (given_fits w given))) given

pub small_passed : (a : ℤ) → IsAtMost (10 ^ 21) a → IsAtMost (10 ^ 21) (to_z w128 (of_z w128 a))
small_passed a small = subst (IsAtMost (10 ^ 21)) (sym (to_z-of_z w128 a (rank_fits a small))) small

pub more_passed : (w : ℤ) → IsGiven w → IsAtMost (10 ^ 21) (to_z w128 (of_z w128 w))
more_passed w given = small_passed w (given_more w given)

pub low_passed : (w : ℤ) → IsGiven w → pos 0 ≤ℤ w → pos 0 ≤ℤ to_z w128 (of_z w128 w)
low_passed w given low = subst (λ z. pos 0 ≤ℤ z) (sym (to_z-of_z w128 w (given_fits w given))) low

pub weight_passed : (w : ℤ) → IsGiven w → pos 0 ≤ℤ w → IsWeight (to_z w128 (of_z w128 w))
weight_passed w given low = record { low = low_passed w given low; given = given_passed w given }

pub weigh_passed : (w : ℤ) (set : List Bool) → IsGiven w → pos 0 ≤ℤ w → length set ≤ 256
    → CanWeigh (to_z w128 (of_z w128 w)) set
weigh_passed w set given low few = record { weight = weight_passed w given low; few = few }

pub can_add : (q w : ℤ) (x : List ℤ) (set : List Bool) (n : ℕ) → IsFactor q → IsGiven w → pos 0 ≤ℤ w
    → n ≤ 256 → length set ≡ n → length x ≡ n → All IsEntry x
    → CanAdd (to_z w128 (of_z w128 q)) (to_z w128 (of_z w128 w)) x set
can_add q w x set n factor given low few ks kx small =
    record {
      factor = factor_passed q factor;
      weigh = weigh_passed w set given low (rw ks few);
      few = rw kx few;
      small = small;
    }

-- the product of a factor and a weight, passed on
pub cap_passed : (q w : ℤ) → IsFactor q → IsGiven w → (c : ℤ)
    → c ≡ (to_z w128 (of_z w128 q) *ℤ to_z w128 (of_z w128 w)) → to_z w128 (of_z w128 c) ≡ (q *ℤ w)
cap_passed q w factor given c is =
    let p = product_is q w (factor_fits q factor) given c is in
    to_z-of_z w128 c (subst (λ z. FitsSigned w128 z) (sym p)
    (product_fits q w factor (given_more w given))) ∙ p

pub cap_fits : (c : ℤ) → pos 0 ≤ℤ c → c ≤ℤ pos (10 ^ 24) → FitsSigned w128 c
cap_fits c low high = omega (arith, ints, low, high)

-- what each slot may hold, passed on
pub capacity_passed : (c : ℤ) → pos 0 ≤ℤ c → c ≤ℤ pos (10 ^ 24)
    → IsCapacity (to_z w128 (of_z w128 c))
capacity_passed c low high = subst IsCapacity (sym (to_z-of_z w128 c (cap_fits c low high)))
    (record { low = low; high = high })
