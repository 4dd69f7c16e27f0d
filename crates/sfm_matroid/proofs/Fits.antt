-- Amounts of a base fit 128 bits, and so does what is left of a number.
use Rattle.std.proofs.Common.{◌≡◌, ◌≢◌, ◌⊎◌, inl, inr, ◌^◌, ℕ, ◌<◌, List, length, get_or, set, ℤ, pos, ◌-ℤ◌, ◌*ℤ◌, ◌≤ℤ◌, to_z, of_z, arith, ⊎_elim, Fits, FitsSigned, length-set, get_or-set_other, get_or-set_same}
use Rattle.std.proofs.lemmas.Bool.{cases_eq}
use Rattle.std.proofs.lemmas.Int.{ints, clamps, by_lt_z, to_z-of_z}
use Rattle.std.specs.Int.{int_min}
use Rattle.std.specs.List.{All}
use mir.Syntax.{w64, w128}
use Rattle.sfm_assign.specs.Splits.{IsAmount}
use Rattle.sfm_spec.specs.Bounds.{IsFactor, IsGiven}
use Rattle.sfm_law.proofs.Fits.{given_fits, product_low, product_high}
use Rattle.sfm_law.proofs.Monotone.{AreCounts}
use Rattle.sfm_matroid.specs.Amounts.{AreCapped, IsRaise}

-- entries from 0 to a number
pub within_amounts : (x : List ℤ) (c : ℤ) → c ≤ℤ pos (10 ^ 24)
    → All (λ a. (pos 0 ≤ℤ a) × (a ≤ℤ c)) x → All IsAmount x
within_amounts x c h all k d lt =
    let r = all k d lt in record { low = r.0; high = omega (arith, ints, r.1, h) }

-- amounts are not negative
pub amounts_count : (x : List ℤ) → All IsAmount x → AreCounts x
amounts_count x all e lt = (all e (pos 0) lt).low

-- so they are amounts
pub capped_amounts : (c : ℤ) (x : List ℤ) → AreCapped c x → All IsAmount x
capped_amounts c x all = within_amounts x c all.high all.within

pub capped : (q w : ℤ) → IsFactor q → pos 0 ≤ℤ w → IsGiven w → (x : List ℤ)
    → All (λ a. (pos 0 ≤ℤ a) × (a ≤ℤ (q *ℤ w))) x → AreCapped (q *ℤ w) x
capped q w factor few given x within =
    record {
      low = product_low q w factor few;
      high = product_high q w factor given;
      within = within;
    }

-- a count as a number of 128 bits
pub count_is : (n : ℕ) → Fits w64 n → to_z w128 n ≡ pos n
count_is n fits = omega (arith, ints, fits)

-- a product as it is passed on in 128 bits
pub product_is : (q w : ℤ) → FitsSigned w128 q → IsGiven w → (c : ℤ)
    → c ≡ (to_z w128 (of_z w128 q) *ℤ to_z w128 (of_z w128 w)) → c ≡ (q *ℤ w)
product_is q w fq given c is = let fw : FitsSigned w128 w = given_fits w given in simp to_z-of_z at
    is

pub amount_fits : (a : ℤ) → IsAmount a → FitsSigned w128 a
amount_fits a h = omega (arith, ints)

-- what is left of a number, and of what is not negative
pub left_fits : (c a : ℤ) → pos 0 ≤ℤ c → c ≤ℤ pos (10 ^ 24) → IsAmount a → FitsSigned w128 (c -ℤ a)
left_fits c a low high h = omega (arith, ints)

-- amounts, of which one becomes 0
pub without_amounts : (x : List ℤ) (v : ℕ) → All IsAmount x → All IsAmount (set x v (pos 0))
without_amounts x v all k d lt =
    let l = length-set x v (pos 0) in
    ⊎_elim
    (λ (same : k ≡ v). rw (same, get_or-set_same x v (pos 0) d (omega (arith, l, lt, same)))
    (record { low = omega (arith, ints); high = omega (arith, ints) }))
    (λ (ne : k ≢ v). rw (get_or-set_other x v k (pos 0) d ne) (all k d (omega (arith, l, lt))))
    (cases_eq k v)

-- the least of three numbers is one of them
pub limit_of : (a b c g : ℤ) → g ≡ int_min a (int_min b c) → (T : Type 0) → (g ≡ a)
    ⊎ ((g ≡ b) ⊎ ((g ≡ c) ⊎ T))
limit_of a b c g is T = by_lt_z a (int_min b c)
    (λ first. inl (omega (arith, ints, clamps, is, first)))
    (λ rest. by_lt_z b c
    (λ second. inr (inl (omega (arith, ints, clamps, is, rest, second))))
    (λ third. inr (inr (inl (omega (arith, ints, clamps, is, rest, third))))))

-- what u is raised by, up to what is wanted, to what v has and to what it lacks itself of a number,
-- where v has nothing more
pub raise_upto : (c : ℤ) (x : List ℤ) (u v : ℕ) (wanted limit : ℤ) → AreCapped c x → u < length x
    → v < length x → u ≢ v → pos 0 ≤ℤ wanted
    → limit ≡ int_min wanted (int_min (get_or x v (pos 0)) (c -ℤ get_or x u (pos 0)))
    → IsRaise x u v limit
raise_upto c x u v wanted limit all from onto ne some is =
    let a = all.within u (pos 0) from in
    let b = all.within v (pos 0) onto in
    let e = get_or-set_other x v u (pos 0) (pos 0) ne in
    let high = all.high in
    let low : pos 0 ≤ℤ limit = omega (arith, ints, clamps, is, some, a.1, b.0) in
    record {
      from = from;
      onto = onto;
      rest = without_amounts x v (capped_amounts c x all);
      low = low;
      small = record {
        low = omega (arith, ints, e, low, a.0);
        high = omega (arith, ints, clamps, is, e, high);
      };
    }
