-- Numbers over numbers in lowest terms: each ratio has one such form, and every other form is a
-- multiple of it.
use Rattle.std.proofs.Common.{◌≡◌, ◌⊎◌, ℕ, zero, suc, ◌+◌, ◌-◌, ◌*◌, ◌/◌, ◌%◌, ◌<◌, ◌≤◌, ℤ, pos, negsuc, neg_ℤ, ◌+ℤ◌, ◌-ℤ◌, ◌*ℤ◌, ◌≤ℤ◌, refl, sym, ap, ◌∙◌, arith, inl, inr}
use Prim.Native.Nat.{◌∣◌}
use Rattle.std.specs.Prelude.{unsigned_abs}
use Rattle.std.specs.Int.{IsGcd}
use Rattle.std.proofs.lemmas.Nat.Gcd.{IsGcd-from_zero, IsGcd-from_mod, le_from_IsGcd, mod-eq-zero_of_dvd}
use Rattle.std.proofs.lemmas.Int.{unsigned_abs-mul}
use Rattle.std.proofs.Math.Nat.{mul-le-mul_left}
use Rattle.std.proofs.lemmas.Bool.{cases_lt}
use Rattle.std.proofs.lemmas.Int.{ints}
use Rattle.sfm_spec.specs.Slopes.{IsLowest, IsSameSlope}
use Rattle.sfm_spec.proofs.Scaled.{times-add, times-sub, times-neg, times-assoc, times-comm, times-mono, times-cancel}

cancel_same : (q a b : ℤ) → pos 1 ≤ℤ q → (q *ℤ a) ≡ (q *ℤ b) → a ≡ b
cancel_same q a b one h =
    let le = times-cancel q a b one (omega (arith, ints, h)) in
    let ge = times-cancel q b a one (omega (arith, ints, h)) in
    omega (arith, ints, le, ge)

-- r/d is p/q with both numbers multiplied by c
pub record IsMultiple (p q r d : ℤ) : Type 0 where
  pub c : ℕ
  pub some : 1 ≤ c
  pub num : (pos c *ℤ p) ≡ r
  pub den : (pos c *ℤ q) ≡ d

-- p/q and r/d are multiples of one ratio
record Shared (p q r d : ℤ) : Type 0 where
  num : ℤ
  den : ℤ
  first : IsMultiple num den p q
  second : IsMultiple num den r d

-- a sum of multiples of one number
multiple_sum : (b c : ℕ) (n r s : ℤ) → (pos b *ℤ n) ≡ r → (pos c *ℤ n) ≡ s
    → (pos (b + c) *ℤ n) ≡ (r +ℤ s)
multiple_sum b c n r s h k =
    let e1 = times-comm (pos (b + c)) n in
    let e2 = times-add n (pos b) (pos c) in
    let e3 = times-comm n (pos b) in
    let e4 = times-comm n (pos c) in
    omega (arith, ints, e1, e2, e3, e4, h, k)

-- the same ratio after the other form is taken away
ratio_less : (p r : ℤ) (q d rest : ℕ) → d ≡ rest + q → (p *ℤ pos d) ≡ (r *ℤ pos q)
    → (p *ℤ pos rest) ≡ ((r -ℤ p) *ℤ pos q)
ratio_less p r q d rest sum same =
    let split : (p *ℤ pos d) ≡ ((p *ℤ pos rest) +ℤ (p *ℤ pos q)) = ap (λ z. p *ℤ pos z) sum
    ∙ times-add p (pos rest) (pos q) in
    let one = times-comm (r -ℤ p) (pos q) in
    let two = times-sub (pos q) r p in
    let three = times-comm r (pos q) in
    let four = times-comm p (pos q) in
    omega (arith, ints, split, same, one, two, three, four)

-- a form is a multiple of what it shares with another where that holds of the form less the other
shared_more : (p q r d rest : ℤ) → d ≡ (rest +ℤ q) → Shared p q (r -ℤ p) rest → Shared p q r d
shared_more p q r d rest sum s =
    let n = multiple_sum s.second.c s.first.c s.num (r -ℤ p) p s.second.num s.first.num in
    let m = multiple_sum s.second.c s.first.c s.den rest q s.second.den s.first.den in
    record {
      num = s.num;
      den = s.den;
      first = s.first;
      second = record {
        c = s.second.c + s.first.c;
        some = omega (arith, s.first.some);
        num = n ∙ omega (arith, ints);
        den = m ∙ sym sum;
      };
    }

shared_swap : (p q r d : ℤ) → Shared p q r d → Shared r d p q
shared_swap p q r d s = record { num = s.num; den = s.den; first = s.second; second = s.first }

-- Euclid's way: the smaller form is taken away from the greater one until they are the same
shared : (fuel : ℕ) (p : ℤ) (q : ℕ) (r : ℤ) (d : ℕ) → 1 ≤ q → 1 ≤ d → q + d ≤ fuel
    → (p *ℤ pos d) ≡ (r *ℤ pos q) → Shared p (pos q) r (pos d)
shared zero p q r d lq ld few same = absurd (omega arith)
shared (suc fuel) p q r d lq ld few same = at (cases_lt q d) (cases_lt d q) (shared fuel) where
  at : (q < d) ⊎ (d ≤ q) → (d < q) ⊎ (q ≤ d)
      → ((p : ℤ) (q : ℕ) (r : ℤ) (d : ℕ) → 1 ≤ q → 1 ≤ d → q + d ≤ fuel
      → (p *ℤ pos d) ≡ (r *ℤ pos q) → Shared p (pos q) r (pos d)) → Shared p (pos q) r (pos d)
  at (inl lt) o next =
      let sum : d ≡ (d - q) + q = omega arith in
      shared_more p (pos q) r (pos d) (pos (d - q)) (ap pos sum)
      (next p q (r -ℤ p) (d - q) lq (omega arith) (omega arith)
      (ratio_less p r q d (d - q) sum same))
  at (inr ge) (inl lt) next =
      let sum : q ≡ (q - d) + d = omega arith in
      shared_swap r (pos d) p (pos q)
      (shared_more r (pos d) p (pos q) (pos (q - d)) (ap pos sum)
      (next r d (p -ℤ r) (q - d) ld (omega arith) (omega arith)
      (ratio_less r p d q (q - d) sum (sym same))))
  at (inr ge) (inr le) next =
      let e : q ≡ d = omega arith in
      let one = times-comm p (pos d) in
      let two = ap (λ z. r *ℤ pos z) e ∙ times-comm r (pos d) in
      let f : p ≡ r = cancel_same (pos d) p r (omega (arith, ints, ld))
      (omega (arith, ints, one, two, same)) in
      let itself : IsMultiple p (pos q) p
      (pos q) = record {
        c = 1;
        some = omega arith;
        num = omega (arith, ints);
        den = omega (arith, ints);
      } in
      record { num = p; den = pos q; first = itself; second = rw (← f, ← e) itself }

-- each form of a ratio is a multiple of the lowest one
pub multiple_of_lowest : (p q r d : ℤ) → IsLowest p q → pos 1 ≤ℤ d → IsSameSlope p q r d
    → IsMultiple p q r d
multiple_of_lowest p (negsuc q) r d low ld same =
    let h = low.positive in absurd (omega (arith, ints, h))
multiple_of_lowest p (pos q) r (negsuc d) low ld same = absurd (omega (arith, ints, ld))
multiple_of_lowest p (pos q) r (pos d) low ld same =
    let h = low.positive in
    let s = shared (q + d) p q r d (omega (arith, ints, h)) (omega (arith, ints, ld)) (omega arith)
    same in
    let one : s.first.c ≡ 1 = low.prime s.first.c s.num s.den s.first.num s.first.den in
    let e1 = rw one at s.first.num in
    let e2 = rw one at s.first.den in
    let p_is : p ≡ s.num = omega (arith, ints, e1) in
    let q_is : pos q ≡ s.den = omega (arith, ints, e2) in
    let m = s.second in
    record {
      c = m.c;
      some = m.some;
      num = ap (λ z. pos m.c *ℤ z) p_is ∙ m.num;
      den = ap (λ z. pos m.c *ℤ z) q_is ∙ m.den;
    }

-- two lowest forms of one ratio are the same
pub lowest_unique : (p q p' q' : ℤ) → IsLowest p q → IsLowest p' q' → IsSameSlope p q p' q'
    → (p ≡ p') × (q ≡ q')
lowest_unique p q p' q' low low' same =
    let m = multiple_of_lowest p q p' q' low low'.positive same in
    let one : m.c ≡ 1 = low'.prime m.c p q m.num m.den in
    let a = rw one at m.num in
    let b = rw one at m.den in
    (omega (arith, ints, a), omega (arith, ints, b))

-- the lowest denominator is the least
pub lowest_den : (p q r d : ℤ) → IsLowest p q → pos 1 ≤ℤ d → IsSameSlope p q r d → q ≤ℤ d
lowest_den p q r d low ld same =
    let m = multiple_of_lowest p q r d low ld same in
    let h = low.positive in
    let e = m.den in
    let l = m.some in
    let g = times-mono q (pos 1) (pos m.c) (omega (arith, ints, h)) (omega (arith, ints, l)) in
    let f = times-comm q (pos m.c) in
    omega (arith, ints, g, f, e)

-- and so is the numerator's magnitude
pub lowest_num : (p q r d : ℤ) → IsLowest p q → pos 1 ≤ℤ d → IsSameSlope p q r d
    → unsigned_abs p ≤ unsigned_abs r
lowest_num p q r d low ld same =
    let m = multiple_of_lowest p q r d low ld same in
    let e = unsigned_abs-mul (pos m.c) p ∙ refl in
    let f : unsigned_abs (pos m.c *ℤ p) ≡ unsigned_abs r = ap unsigned_abs m.num in
    let g = mul-le-mul_left (unsigned_abs p) m.some in
    omega (arith, e, f, g)

-- ---- a ratio is brought to lowest terms by a greatest common divisor

-- both numbers divided by their greatest common divisor are in lowest terms
pub lowest_of_gcd : (p q num : ℤ) (den g : ℕ) → 1 ≤ den → IsGcd (unsigned_abs num) den g
    → (pos g *ℤ p) ≡ num → (pos g *ℤ q) ≡ pos den → IsLowest p q
lowest_of_gcd p q num den g some h en ed = record { positive = positive q ed; prime = prime } where
  positive : (q : ℤ) → (pos g *ℤ q) ≡ pos den → pos 1 ≤ℤ q
  positive (pos zero) e = absurd (omega (arith, ints, e, some))
  positive (pos (suc k)) e = omega (arith, ints)
  positive (negsuc k) e = absurd (omega (arith, ints, e, some))

  g_some : (g : ℕ) → (pos g *ℤ q) ≡ pos den → 0 < g
  g_some zero e = absurd (omega (arith, ints, e, some))
  g_some (suc g) e = omega arith

  prime : (c : ℕ) (a b : ℤ) → (pos c *ℤ a) ≡ p → (pos c *ℤ b) ≡ q → c ≡ 1
  prime c a b ea eb = one c eb le where
    both : (x y z : ℤ) → (pos g *ℤ y) ≡ z → (pos c *ℤ x) ≡ y
        → unsigned_abs z ≡ g * c * unsigned_abs x
    both x y z ez ey =
        let m = unsigned_abs-mul (pos g) (pos c *ℤ x) in
        let k = unsigned_abs-mul (pos c) x in
        let t : unsigned_abs z ≡ unsigned_abs (pos g *ℤ (pos c *ℤ x)) = ap unsigned_abs
        (sym ez ∙ ap (λ w. pos g *ℤ w) (sym ey)) in
        let u : unsigned_abs z ≡ g * (c * unsigned_abs x) = t ∙ (m ∙ ap (λ w. g * w) k) in
        omega (arith, u)

    le : g * c ≤ g
    le = le_from_IsGcd (unsigned_abs num) den g (g * c) h (g_some g ed)
        (∣ (unsigned_abs a, both a p num en ea) ∣₁)
        (∣ (unsigned_abs b, both b q (pos den) ed eb) ∣₁)

    one : (c : ℕ) → (pos c *ℤ b) ≡ q → g * c ≤ g → c ≡ 1
    one zero e l = let k = positive q ed in absurd (omega (arith, ints, e, k))
    one (suc zero) e l = refl
    one (suc (suc c)) e l = let k = g_some g ed in absurd (omega (arith, k, l))

gcd_exists : (fuel a b : ℕ) → b ≤ fuel → (g : ℕ) × IsGcd a b g
gcd_exists fuel a zero few = (a, IsGcd-from_zero a zero refl)
gcd_exists zero a (suc b) few = absurd (omega arith)
gcd_exists (suc fuel) a (suc b) few =
    let (g, h) = gcd_exists fuel (suc b) (a % suc b)
    (omega arith) in (g, IsGcd-from_mod a (suc b) g h)

divided : (a g : ℕ) → g ∣ a → g * (a / g) ≡ a
divided a zero h = let e = mod-eq-zero_of_dvd zero h in omega (arith, e)
divided a (suc g) h = let e = mod-eq-zero_of_dvd (suc g) h in omega (arith, e)

same_ratio : (g p q p' q' : ℤ) → (g *ℤ p') ≡ p → (g *ℤ q') ≡ q → IsSameSlope p q p' q'
same_ratio g p q p' q' ep eq =
    ap (λ z. z *ℤ q') (sym ep ∙ times-comm g p') ∙ (times-assoc p' g q' ∙ ap (λ z. p' *ℤ z) eq)

-- each ratio has a lowest form
pub lowest_exists : (p q : ℤ) → pos 1 ≤ℤ q → (p' : ℤ) × (q' : ℤ) × IsLowest p' q'
    × IsSameSlope p q p' q'
lowest_exists p (negsuc q) lq = absurd (omega (arith, ints, lq))
lowest_exists p (pos q) lq = from (gcd_exists q (unsigned_abs p) q (omega arith)) where
  quotient : ℤ → ℕ → ℤ
  quotient (pos k) g = pos (k / g)
  quotient (negsuc k) g = neg_ℤ (pos (suc k / g))

  quotient_is : (p : ℤ) (g : ℕ) → g ∣ unsigned_abs p → (pos g *ℤ quotient p g) ≡ p
  quotient_is (pos k) g h = ap pos (divided k g h)
  quotient_is (negsuc k) g h =
      let d = divided (suc k) g h in
      times-neg (pos g) (pos (suc k / g)) ∙ ap neg_ℤ (ap pos d)

  from : (g : ℕ) × IsGcd (unsigned_abs p) q g → (p' : ℤ) × (q' : ℤ) × IsLowest p' q'
      × IsSameSlope p (pos q) p' q'
  from (g, h) =
      let ep = quotient_is p g h.0 in
      let eq : (pos g *ℤ pos (q / g)) ≡ pos q = ap pos (divided q g h.1) in (
        quotient p g,
        pos (q / g),
        lowest_of_gcd (quotient p g) (pos (q / g)) p q g
            (omega (arith, ints, lq)) h ep eq,
        same_ratio (pos g) p (pos q) (quotient p g) (pos (q / g)) ep eq,
      )
