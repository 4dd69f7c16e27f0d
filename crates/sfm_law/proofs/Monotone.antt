-- Sums over larger sets, and what the whole gets beyond all places but one.
use Rattle.std.proofs.Common.{◌≡◌, ℕ, zero, suc, ◌<◌, Bool, true, false, List, [], ◌∷◌, length, get_or, set, ℤ, pos, ◌+ℤ◌, ◌≤ℤ◌, refl, arith}
use Rattle.std.proofs.lemmas.Bool.{false≢true}
use Rattle.std.proofs.lemmas.Int.{ints}
use Rattle.sfm_spec.specs.Sets.{IsWithin, whole_set, sum_over}

-- no entry is negative
abbrev pub AreCounts : List ℤ → Type 0
AreCounts x = (e : ℕ) → e < length x → pos 0 ≤ℤ get_or x e (pos 0)

pub sum_over-low : (s : List Bool) (x : List ℤ) → AreCounts x → pos 0 ≤ℤ sum_over s x
sum_over-low [] x counts = omega (arith, ints)
sum_over-low (b ∷ s) [] counts = omega (arith, ints)
sum_over-low (true ∷ s) (y ∷ x) counts =
    let r = sum_over-low s x (λ e h. counts (suc e) (omega arith)) in let c = counts 0
    (omega arith) in omega (arith, ints, r, c)
sum_over-low (false ∷ s) (y ∷ x) counts =
    let r = sum_over-low s x (λ e h. counts (suc e) (omega arith)) in omega (arith, ints, r)

-- over entries that are not negative a larger set gets at least as much
pub sum_over-mono : (s t : List Bool) (x : List ℤ) → AreCounts x → length s ≡ length t
    → IsWithin s t → sum_over s x ≤ℤ sum_over t x
sum_over-mono [] t x counts same within = sum_over-low t x counts
sum_over-mono (a ∷ s) [] x counts same within = absurd (omega arith)
sum_over-mono (a ∷ s) (b ∷ t) [] counts same within = omega (arith, ints)
sum_over-mono (a ∷ s) (b ∷ t) (y ∷ x) counts same within =
    at a b (within 0) (sum_over-mono s t x (λ e h. counts (suc e) (omega arith)) (omega arith)
    (λ e. within (suc e))) where
      at : (a b : Bool) → (a ≡ true → b ≡ true) → sum_over s x ≤ℤ sum_over t x
          → sum_over (a ∷ s) (y ∷ x) ≤ℤ sum_over (b ∷ t) (y ∷ x)
      at true true w r = omega (arith, ints, r)
      at true false w r = absurd (false≢true (w refl))
      at false true w r = let c = counts 0 (omega arith) in omega (arith, ints, r, c)
      at false false w r = omega (arith, ints, r)

-- all places but e
abbrev pub without : ℕ → ℕ → List Bool
without k e = set (whole_set k) e false

pub sum_over-without : (k e : ℕ) (x : List ℤ) → length x ≡ k → e < k
    → (sum_over (without k e) x +ℤ get_or x e (pos 0)) ≡ sum_over (whole_set k) x
sum_over-without zero e x sized h = absurd (omega arith)
sum_over-without (suc k) e [] sized h = absurd (omega arith)
sum_over-without (suc k) zero (y ∷ x) sized h = omega (arith, ints)
sum_over-without (suc k) (suc e) (y ∷ x) sized h =
    let r : (sum_over (without k e) x +ℤ get_or x e (pos 0)) ≡ sum_over (whole_set k)
    x = sum_over-without k e x (omega arith) (omega arith) in
    omega (arith, ints, r)
