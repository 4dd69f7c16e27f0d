-- Division by the greatest common divisor: the quotients are exact, in lowest terms and no larger.
use Rattle.std.proofs.Common.{◌≡◌, ℕ, zero, suc, ◌*◌, ◌%◌, ◌≤◌, ◌<◌, ◌^◌, ℤ, pos, negsuc, neg_ℤ, nat_abs, ◌+ℤ◌, ◌*ℤ◌, ◌≤ℤ◌, ◌<ℤ◌, ◌↔◌, int_div, int_rem, refl, sym, ap, subst, ◌∙◌, arith}
use Rattle.std.specs.Int.{IsGcd, ◌∣◌}
use Rattle.std.specs.Ordering.{int_cmp, MatchOrdering}
use Rattle.std.specs.declared.cmp.Ordering.{Ordering}
use Rattle.std.specs.declared.cmp.Ordering.TheVariants.{Less, Equal, Greater}
use Rattle.std.proofs.lemmas.Cmp.{int_ranked}
use Rattle.std.proofs.lemmas.Int.{ints, quot-rem, unsigned_abs-mul}
use Rattle.std.proofs.lemmas.Nat.Gcd.{mod-eq-zero_of_dvd, le_of_dvd}
use Rattle.std.proofs.Math.Nat.{dvd-mul_right, mul-le-mul_left, mul_assoc}
use Rattle.sfm_spec.specs.Slopes.{IsLowest, IsSameSlope}
use Rattle.sfm_spec.specs.Bounds.{IsAtMost, IsEntry, IsFactor}

-- ---- magnitudes

pub abs-at_most : (m : ℕ) (a : ℤ) → IsAtMost m a → nat_abs a ≤ m
abs-at_most m (pos n) h = omega (arith, ints, h.high)
abs-at_most m (negsuc n) h = omega (arith, ints, h.low)

pub at_most_from_abs : (m : ℕ) (a : ℤ) → nat_abs a ≤ m → IsAtMost m a
at_most_from_abs m (pos n) h =
    record { low = omega (arith, ints, h); high = omega (arith, ints, h) }
at_most_from_abs m (negsuc n) h =
    record { low = omega (arith, ints, h); high = omega (arith, ints, h) }

-- ---- exact quotients

rem_none : (d : ℕ) (a : ℤ) → nat_abs a % d ≡ 0 → int_rem a (pos d) ≡ pos 0
rem_none d (pos n) h = ap pos h
rem_none d (negsuc n) h = ap (λ k. neg_ℤ (pos k)) h

pub quotient_exact : (a : ℤ) (d : ℕ) → d ∣ nat_abs a → (pos d *ℤ int_div a (pos d)) ≡ a
quotient_exact a d h =
    let e : (int_div a (pos d) *ℤ pos d +ℤ int_rem a (pos d)) ≡ a = quot-rem a (pos d) in
    let r : int_rem a (pos d) ≡ pos 0 = rem_none d a (mod-eq-zero_of_dvd d h) in
    omega (arith, ints, e, r)

-- ---- lowest terms

-- the sign of a denominator
pub quotient_positive : (g : ℕ) (y q : ℤ) → (pos g *ℤ y) ≡ q → pos 1 ≤ℤ q → pos 1 ≤ℤ y
quotient_positive g (pos zero) q e h = absurd (omega (arith, ints, e, h))
quotient_positive g (pos (suc n)) q e h = omega (arith, ints)
quotient_positive g (negsuc n) q e h = absurd (omega (arith, ints, e, h))

-- the magnitude of what is divided
abs-multiple : (g : ℕ) (x p : ℤ) → (pos g *ℤ x) ≡ p → nat_abs p ≡ g * nat_abs x
abs-multiple g x p e = sym (ap nat_abs e) ∙ unsigned_abs-mul (pos g) x

pub divides_multiple : (g c : ℕ) (a x p : ℤ) → (pos g *ℤ x) ≡ p → (pos c *ℤ a) ≡ x
    → (g * c) ∣ nat_abs p
divides_multiple g c a x p e f =
    let k : nat_abs p ≡ (g * c) * nat_abs a
    = abs-multiple g x p e ∙ ap (λ m. g * m) (abs-multiple c a x f)
    ∙ sym (mul_assoc g c (nat_abs a)) in
    subst (λ (m : ℕ). (g * c) ∣ m) (sym k) (dvd-mul_right (g * c) (nat_abs a))

one_from_le : (g c : ℕ) → 0 < g → g * c ≤ g → 0 < c → c ≡ 1
one_from_le g zero some h k = absurd (omega arith)
one_from_le g (suc zero) some h k = refl
one_from_le g (suc (suc c)) some h k =
    absurd (omega (arith, mul-le-mul_left {m = 2} {n = suc (suc c)} g (omega arith)))

some_factor : (c : ℕ) (b y : ℤ) → (pos c *ℤ b) ≡ y → pos 1 ≤ℤ y → 0 < c
some_factor zero b y e h = absurd (omega (arith, ints, e, h))
some_factor (suc c) b y e h = omega arith

pub lowest_by_gcd : (g : ℕ) (x y p q : ℤ) → 0 < g → IsGcd (nat_abs p) (nat_abs q) g
    → (pos g *ℤ x) ≡ p → (pos g *ℤ y) ≡ q → pos 1 ≤ℤ q → IsLowest x y
lowest_by_gcd g x y p q some h e f low = record {
  positive = quotient_positive g y q f low;
  prime = λ c a b k l.
      one_from_le g c some
      (le_of_dvd some (h.2 (g * c) (divides_multiple g c a x p e k)
      (divides_multiple g c b y q f l)))
      (some_factor c b y l (quotient_positive g y q f low));
}

pub abs-quotient-le : (g : ℕ) (x p : ℤ) → 0 < g → (pos g *ℤ x) ≡ p → nat_abs x ≤ nat_abs p
abs-quotient-le g x p some e =
    let k : nat_abs p ≡ g * nat_abs x = abs-multiple g x p e in
    omega (arith, k, one_times g (nat_abs x) some) where
      one_times : (g n : ℕ) → 0 < g → n ≤ g * n
      one_times zero n some = absurd (omega arith)
      one_times (suc g) n some = omega arith

-- ---- the same slope

neg_times : (k m : ℕ) → (neg_ℤ (pos k) *ℤ pos m) ≡ neg_ℤ (pos (k * m))
neg_times zero m = omega (arith, ints)
neg_times (suc k) m = refl

pub cross : (g : ℕ) (x y : ℤ) → pos 1 ≤ℤ y → ((pos g *ℤ x) *ℤ y) ≡ (x *ℤ (pos g *ℤ y))
cross g (pos n) (pos m) h = ap pos (omega arith)
cross g (negsuc n) (pos m) h = neg_times (g * suc n) m ∙ ap (λ k. neg_ℤ (pos k)) (omega arith)
cross g x (negsuc m) h = absurd (omega (arith, ints, h))

pub same_slope : (g : ℕ) (x y p q : ℤ) → (pos g *ℤ x) ≡ p → (pos g *ℤ y) ≡ q → pos 1 ≤ℤ q
    → IsSameSlope p q x y
same_slope g x y p q e f low =
    ap (λ z. z *ℤ y) (sym e) ∙ cross g x y (quotient_positive g y q f low) ∙ ap (λ z. x *ℤ z) f

-- ---- what is divided, and by what

-- the greatest common divisor of p and of a factor q
pub record IsDivisor (p q : ℤ) (g : ℕ) : Type 0 where
  pub gcd : IsGcd (nat_abs p) (nat_abs q) g
  pub some : 0 < g
  pub small : g ≤ 10 ^ 6

pub divisor_by_gcd : (p q : ℤ) (g : ℕ) → IsFactor q → IsGcd (nat_abs p) (nat_abs q) g
    → IsDivisor p q g
divisor_by_gcd p q g f h = record {
  gcd = h;
  some = not_zero g (nat_abs q) (some_of q f.low) h.1;
  small = omega (
    arith,
    le_of_dvd (some_of q f.low) h.1,
    abs-at_most (10 ^ 6) q (record { low = omega (arith, ints, f.low); high = f.high }),
  );
} where
  some_of : (q : ℤ) → pos 1 ≤ℤ q → 0 < nat_abs q
  some_of (pos n) l = omega (arith, ints, l)
  some_of (negsuc n) l = omega arith

  not_zero : (g m : ℕ) → 0 < m → g ∣ m → 0 < g
  not_zero zero m l d = absurd (omega (arith, mod-eq-zero_of_dvd zero d))
  not_zero (suc g) m l d = omega arith

pub entry_divided : (p q x : ℤ) (g : ℕ) → IsDivisor p q g → (pos g *ℤ x) ≡ p → IsEntry p → IsEntry x
entry_divided p q x g d e h = at_most_from_abs (10 ^ 30) x
    (omega (arith, abs-quotient-le g x p d.some e, abs-at_most (10 ^ 30) p h))

pub factor_divided : (p q y : ℤ) (g : ℕ) → IsDivisor p q g → (pos g *ℤ y) ≡ q → IsFactor q
    → IsFactor y
factor_divided p q y g d e h =
    let a : nat_abs q ≤ 10 ^ 6 = abs-at_most (10 ^ 6) q
    (record { low = omega (arith, ints, h.low); high = h.high }) in
    record {
      low = quotient_positive g y q e h.low;
      high = (at_most_from_abs (10 ^ 6) y (omega (arith, abs-quotient-le g y q d.some e, a))).high;
    }

-- ---- the order of two numbers

-- what each answer of a comparison says
pub record Compares (x y : ℤ) (r : Ordering) : Type 0 where
  pub less : (r ≡ Less) ↔ (x <ℤ y)
  pub equal : (r ≡ Equal) ↔ (x ≡ y)
  pub greater : (r ≡ Greater) ↔ (y <ℤ x)

pub compared : (x y : ℤ) (r : Ordering) → r ≡ int_cmp x y → Compares x y r
compared x y r e = at r (int_ranked x y r e) where
  at : (r : Ordering) → MatchOrdering r (x <ℤ y) (x ≡ y) (y <ℤ x) → Compares x y r
  at Less h = record {
    less = (λ _. h, λ _. refl);
    equal = (λ k. cc, λ k. absurd (omega (arith, ints, h, k)));
    greater = (λ k. cc, λ k. absurd (omega (arith, ints, h, k)));
  }
  at Equal h = record {
    less = (λ k. cc, λ k. absurd (omega (arith, ints, h, k)));
    equal = (λ _. h, λ _. refl);
    greater = (λ k. cc, λ k. absurd (omega (arith, ints, h, k)));
  }
  at Greater h = record {
    less = (λ k. cc, λ k. absurd (omega (arith, ints, h, k)));
    equal = (λ k. cc, λ k. absurd (omega (arith, ints, h, k)));
    greater = (λ _. h, λ _. refl);
  }
