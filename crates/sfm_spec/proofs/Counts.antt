-- Sums of whole numbers over the first places, by which walks are counted.
use Rattle.std.proofs.Common.{◌≡◌, ◌⊎◌, ℕ, zero, suc, ◌+◌, ◌-◌, ◌*◌, ◌<◌, ◌≤◌, ap, arith, inl, inr}
use Rattle.std.proofs.Math.Nat.{mul-le-mul_left}
use Rattle.std.proofs.lemmas.Bool.{cases_lt}
use Rattle.sfm_spec.specs.Labels.{code_of}
use Rattle.sfm_spec.specs.Progress.{sum_below, rank_of}

-- no summand falls: the sum does not
pub sum_below-le : (n : ℕ) (f g : ℕ → ℕ) → ((e : ℕ) → e < n → f e ≤ g e)
    → sum_below n f ≤ sum_below n g
sum_below-le zero f g h = omega arith
sum_below-le (suc n) f g h =
    let r = sum_below-le n (λ e. f (suc e)) (λ e. g (suc e)) (λ e l. h (suc e) (omega arith)) in
    let z = h 0 (omega arith) in
    omega (arith, r, z)

-- no summand falls and one rises: the sum rises
pub sum_below-lt : (n : ℕ) (f g : ℕ → ℕ) (e : ℕ) → ((e : ℕ) → e < n → f e ≤ g e) → e < n → f e < g e
    → sum_below n f < sum_below n g
sum_below-lt zero f g e h l less = absurd (omega arith)
sum_below-lt (suc n) f g zero h l less =
    let r = sum_below-le n (λ e. f (suc e)) (λ e. g (suc e)) (λ e l. h (suc e) (omega arith)) in
    omega (arith, r, less)
sum_below-lt (suc n) f g (suc e) h l less =
    let r = sum_below-lt n (λ e. f (suc e)) (λ e. g (suc e)) e (λ e l. h (suc e) (omega arith))
    (omega arith) less in
    let z = h 0 (omega arith) in
    omega (arith, r, z)

-- n summands of at most b are at most n b
pub sum_below-bound : (n : ℕ) (f : ℕ → ℕ) (b : ℕ) → ((e : ℕ) → e < n → f e ≤ b)
    → sum_below n f ≤ n * b
sum_below-bound zero f b h = omega arith
sum_below-bound (suc n) f b h =
    let r = sum_below-bound n (λ e. f (suc e)) b (λ e l. h (suc e) (omega arith)) in
    let z = h 0 (omega arith) in
    omega (arith, r, z)

-- d takes each of the first k numbers at one of the first n places: k is at most n
pub few_values : (n k : ℕ) (d : ℕ → ℕ) → ((j : ℕ) → j < k → (e : ℕ) × (e < n) × (d e ≡ j)) → k ≤ n
few_values n k d h =
    let r = reach k h in
    let b = sum_below-bound n (flag k) 1 (λ e le. omega arith) in
    omega (arith, r, b) where
      -- 1 where d is less than k
      flag : ℕ → ℕ → ℕ
      flag k e = (k - d e) - ((k - 1) - d e)

      reach : (k : ℕ) → ((j : ℕ) → j < k → (e : ℕ) × (e < n) × (d e ≡ j)) → k ≤ sum_below n (flag k)
      reach zero h = omega arith
      reach (suc k) h =
          let r = reach k (λ j l. h j (omega (arith, l))) in
          let (e, le, is) = h k (omega arith) in
          let s = sum_below-lt n (flag k) (flag (suc k)) e (λ e le. omega arith) le
          (omega (arith, is)) in
          omega (arith, r, s)

-- ---- a pair of numbers as one number

-- of n places and m terms the code is less than n m
pub code_below : (n m v i : ℕ) → v < n → i < m → code_of m v i < n * m
code_below n m v i lv li = let g = mul-le-mul_left m lv in omega (arith, g, li)

-- the code tells the place and the term
pub code_same : (m v i v' i' : ℕ) → i < m → i' < m → code_of m v i ≡ code_of m v' i' → (v ≡ v')
    × (i ≡ i')
code_same m v i v' i' li li' e = at (cases_lt v v') (cases_lt v' v) where
  at : (v < v') ⊎ (v' ≤ v) → (v' < v) ⊎ (v ≤ v') → (v ≡ v') × (i ≡ i')
  at (inl lt) o = let g = mul-le-mul_left m lt in absurd (omega (arith, g, li, li', e))
  at (inr ge) (inl lt) = let g = mul-le-mul_left m lt in absurd (omega (arith, g, li, li', e))
  at (inr ge) (inr le) = let same : v ≡ v' = omega arith in let f = ap (λ z. z * m)
      same in (same, omega (arith, e, f))

-- a greater d makes the number no smaller, whatever l is
pub rank_rises : (k d l d' l' : ℕ) → d < d' → l ≤ k → rank_of k d l ≤ rank_of k d' l'
rank_rises k d l d' l' less small = let g = mul-le-mul_left k less in omega (arith, g, small)

-- a greater d makes it greater, where l was less than k
pub rank_rises_more : (k d l d' l' : ℕ) → d < d' → l < k → rank_of k d l < rank_of k d' l'
rank_rises_more k d l d' l' less small = let g = mul-le-mul_left k less in omega (arith, g, small)

-- at the same d it goes by l
pub rank_same : (k d l d' l' : ℕ) → d ≡ d' → l ≤ l' → rank_of k d l ≤ rank_of k d' l'
rank_same k d l d' l' e h = let f = ap (λ z. z * k) e in omega (arith, f, h)

-- at the same d a greater l makes it greater
pub rank_same_more : (k d l d' l' : ℕ) → d ≡ d' → l < l' → rank_of k d l < rank_of k d' l'
rank_same_more k d l d' l' e h = let f = ap (λ z. z * k) e in omega (arith, f, h)

-- at most (n + 1) k, where d is at most n
pub rank_bound : (k n d l : ℕ) → d ≤ n → l ≤ k → rank_of k d l ≤ (n + 1) * k
rank_bound k n d l h s = let g = mul-le-mul_left k h in omega (arith, g, s)
