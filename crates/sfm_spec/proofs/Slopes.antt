-- Products of slopes: which of two slopes is lower, by numbers that stand in their ratios.
use Rattle.std.proofs.Common.{◌≡◌, ℕ, ◌+◌, ◌*◌, ◌≤◌, Bool, true, false, List, [], ◌∷◌, ℤ, pos, negsuc, ◌+ℤ◌, ◌*ℤ◌, ◌≤ℤ◌, ◌<ℤ◌, sym, arith}
use Rattle.std.proofs.Math.Nat.{mul-le-mul_left}
use Rattle.std.proofs.Math.IntN.{*ℤ-zero}
use borrow.Author.Differences.{up, down}
use Rattle.std.proofs.lemmas.Int.{ints, by_lt_z}
use Rattle.sfm_spec.specs.Sets.{sum_over}
use Rattle.sfm_spec.specs.Slopes.{IsLowerSlope, IsSameSlope}
use Rattle.sfm_spec.specs.Families.{sized_shift}
use Rattle.sfm_spec.proofs.Scaled.{times-add, times-comm, times-mono}

-- the shift of a slope, summed over a set, is the slope times the weight
pub sum_over-sized : (s : List Bool) (sizes : List ℤ) (p : ℤ)
    → sum_over s (sized_shift sizes p) ≡ (p *ℤ sum_over s sizes)
sum_over-sized [] sizes p = sym (*ℤ-zero p)
sum_over-sized (b ∷ s) [] p = sym (*ℤ-zero p)
sum_over-sized (true ∷ s) (w ∷ sizes) p =
    let r = sum_over-sized s sizes p in
    let a = times-add p w (sum_over s sizes) in
    omega (arith, ints, r, a)
sum_over-sized (false ∷ s) (w ∷ sizes) p =
    let r = sum_over-sized s sizes p in
    let a = times-add p (pos 0) (sum_over s sizes) in
    let z = *ℤ-zero p in
    omega (arith, ints, r, a, z)

-- p/q is at most p'/q', and that at most p''/q'', one of them by a slack: then p/q is lower than
-- p''/q''
slopes_join : (i j : ℕ) (p q p' q' p'' q'' : ℤ) → 1 ≤ i + j → pos 1 ≤ℤ q → pos 1 ≤ℤ q'
    → pos 1 ≤ℤ q'' → (p *ℤ q' +ℤ pos i) ≤ℤ (p' *ℤ q) → (p' *ℤ q'' +ℤ pos j) ≤ℤ (p'' *ℤ q')
    → IsLowerSlope p q p'' q''
slopes_join i j p (negsuc n) p' q' p'' q'' some lq lq' lq'' one two =
    absurd (omega (arith, ints, lq))
slopes_join i j p (pos n) p' (negsuc m) p'' q'' some lq lq' lq'' one two =
    absurd (omega (arith, ints, lq'))
slopes_join i j p (pos n) p' (pos m) p'' (negsuc k) some lq lq' lq'' one two =
    absurd (omega (arith, ints, lq''))
slopes_join i j p (pos n) p' (pos m) p'' (pos k) some lq lq' lq'' one two =
    by_lt_z (p *ℤ pos k) (p'' *ℤ pos n) (λ lt. lt) (λ le. clash le) where
      clash : (p'' *ℤ pos n) ≤ℤ (p *ℤ pos k) → (p *ℤ pos k) <ℤ (p'' *ℤ pos n)
      clash le =
          let f1 : (up p * m + down p' * n) + i ≤ up p' * n + down
          p * m = omega (arith, ints, one) in
          let f2 : (up p' * k + down p'' * m) + j ≤ up p'' * m + down
          p' * k = omega (arith, ints, two) in
          let f3 : up p'' * n + down p * k ≤ up p * k + down p'' * n = omega (arith, ints, le) in
          let ln : 1 ≤ n = omega (arith, ints, lq) in
          let lk : 1 ≤ k = omega (arith, ints, lq'') in
          let g1 = mul-le-mul_left k f1 in
          let g2 = mul-le-mul_left n f2 in
          let g3 = mul-le-mul_left m f3 in
          let h1 = mul-le-mul_left i lk in
          let h2 = mul-le-mul_left j ln in
          absurd (omega (arith, g1, g2, g3, h1, h2, some))

-- lower than a lower one is lower
pub slopes_trans : (p q p' q' p'' q'' : ℤ) → pos 1 ≤ℤ q → pos 1 ≤ℤ q' → pos 1 ≤ℤ q''
    → IsLowerSlope p q p' q' → IsLowerSlope p' q' p'' q'' → IsLowerSlope p q p'' q''
slopes_trans p q p' q' p'' q'' lq lq' lq'' one two =
    slopes_join 1 1 p q p' q' p'' q'' (omega arith) lq lq' lq'' (omega (arith, ints, one))
    (omega (arith, ints, two))

-- the same slope, written otherwise, is above the same slopes
pub lower_same : (p q p' q' p'' q'' : ℤ) → pos 1 ≤ℤ q → pos 1 ≤ℤ q' → pos 1 ≤ℤ q''
    → IsLowerSlope p q p' q' → IsSameSlope p' q' p'' q'' → IsLowerSlope p q p'' q''
lower_same p q p' q' p'' q'' lq lq' lq'' one same =
    slopes_join 1 0 p q p' q' p'' q'' (omega arith) lq lq' lq'' (omega (arith, ints, one))
    (omega (arith, ints, same))

-- p/q is a/d, which is less than p'/q'
pub lower_by : (p q p' q' a d : ℤ) → pos 1 ≤ℤ q → pos 1 ≤ℤ q' → pos 1 ≤ℤ d → (q *ℤ a) ≡ (p *ℤ d)
    → (q' *ℤ a) <ℤ (p' *ℤ d) → IsLowerSlope p q p' q'
lower_by p q p' q' a d lq lq' ld same less =
    slopes_join 0 1 p q a d p' q' (omega arith) lq ld lq'
    (omega (arith, ints, times-comm q a, same)) (omega (arith, ints, times-comm q' a, less))

-- p/q is a/d, which is greater than p'/q'
pub higher_by : (p q p' q' a d : ℤ) → pos 1 ≤ℤ q → pos 1 ≤ℤ q' → pos 1 ≤ℤ d → (q *ℤ a) ≡ (p *ℤ d)
    → (p' *ℤ d) <ℤ (q' *ℤ a) → IsLowerSlope p' q' p q
higher_by p q p' q' a d lq lq' ld same less =
    slopes_join 1 0 p' q' a d p q (omega arith) lq' ld lq
    (omega (arith, ints, times-comm q' a, less)) (omega (arith, ints, times-comm q a, same))

-- p/q < p'/q', and a/d is at most p/q, and b/d at least p'/q': then a < b
pub slope_clash : (p q p' q' a b d : ℤ) → pos 1 ≤ℤ q → pos 1 ≤ℤ q' → pos 1 ≤ℤ d
    → IsLowerSlope p q p' q' → (q *ℤ a) ≤ℤ (p *ℤ d) → (p' *ℤ d) ≤ℤ (q' *ℤ b) → b ≤ℤ a → ⊥
slope_clash p q p' q' a b d lq lq' ld less ha hb below =
    let one : IsLowerSlope a d p' q' = slopes_join 0 1 a d p q p' q' (omega arith) ld lq lq'
    (omega (arith, ints, times-comm q a, ha)) (omega (arith, ints, less)) in
    let two : IsLowerSlope a d b d = slopes_join 1 0 a d p' q' b d (omega arith) ld lq' ld
    (omega (arith, ints, one)) (omega (arith, ints, times-comm q' b, hb)) in
    let three = times-mono d b a (omega (arith, ints, ld)) below in
    omega (arith, ints, times-comm d a, times-comm d b, two, three)

-- no slope is lower than itself
pub not_lower_itself : (p q : ℤ) → IsLowerSlope p q p q → ⊥
not_lower_itself p q h = omega (arith, ints, h)
