-- Lemmas on how many numbers below a bound pass a test, and on one that passes.
use Rattle.std.proofs.Common.{◌≡◌, ◌⊎◌, ℕ, zero, suc, ◌+◌, ◌<◌, ◌≤◌, Bool, true, false, not, ◌&&◌, List, [], ◌∷◌, length, get_or, nat_eq, if◌then◌else◌, refl, sym, ap, ◌∙◌, arith, inl, inr, ⊎_elim}
use Rattle.std.proofs.lemmas.Bool.{false≢true, cases_Bool, cases_lt, eq-eqb, eqb-true}
use Rattle.sfm_spec.specs.Sets.{size}
use Rattle.sfm_spec.proofs.Where.{size-cons}
use Rattle.sfm_matroid.specs.Counts.{count_below, unit_of}

pub eqb_apart : (a b : ℕ) → (a ≡ b → ⊥) → nat_eq a b ≡ false
eqb_apart a b ne = ⊎_elim (λ t. absurd (ne (eqb-true a b t))) (λ f. f) (cases_Bool (nat_eq a b))

pub count-same : (n : ℕ) (p q : ℕ → Bool) → ((x : ℕ) → x < n → p x ≡ q x)
    → count_below n p ≡ count_below n q
count-same zero p q same = refl
count-same (suc n) p q same = let r = count-same n p q
    (λ x lt. same x (omega arith)) in let h = ap unit_of
    (same n (omega arith)) in omega (arith, r, h)

-- one number that passes left out
pub count-without : (n : ℕ) (p : ℕ → Bool) (a : ℕ) → a < n → p a ≡ true
    → suc (count_below n (λ x. not (nat_eq x a) && p x)) ≡ count_below n p
count-without zero p a lt h = absurd (omega arith)
count-without (suc n) p a lt h = ⊎_elim
    (λ (less : a < n).
    let r = count-without n p a less h in
    let ne = eqb_apart n a (λ e. omega (arith, e, less)) in
    let s : unit_of (not (nat_eq n a) && p n) ≡ unit_of (p n) = rw ne refl in
    omega (arith, r, s))
    (λ (ge : n ≤ a).
    let e : n ≡ a = omega arith in
    let here : unit_of (not (nat_eq n a) && p n) ≡ 0 = rw (eq-eqb n a e) refl in
    let all = count-same n (λ x. not (nat_eq x a) && p x) p
    (λ x lt. rw (eqb_apart x a (λ s. omega (arith, s, e, lt))) refl) in
    let one : unit_of (p n) ≡ 1 = rw (e, h) refl in
    omega (arith, here, all, one))
    (cases_lt a n)

-- what is mapped one-to-one into what passes another test is no more than that
pub count-into : (n m : ℕ) (p q : ℕ → Bool) (f g : ℕ → ℕ)
    → ((x : ℕ) → x < n → p x ≡ true → (f x < m) × (q (f x) ≡ true) × (g (f x) ≡ x))
    → count_below n p ≤ count_below m q
count-into zero m p q f g into = omega arith
count-into (suc n) m p q f g into = at (count-into n m p) (p n) refl where
  at : ((q : ℕ → Bool) (f g : ℕ → ℕ)
      → ((x : ℕ) → x < n → p x ≡ true → (f x < m) × (q (f x) ≡ true) × (g (f x) ≡ x))
      → count_below n p ≤ count_below m q)
      → (b : Bool) → p n ≡ b → count_below (suc n) p ≤ count_below m q
  at rest false e = let r = rest q f g (λ x lt. into x (omega arith)) in let h = ap unit_of
      e in omega (arith, r, h)
  at rest true e =
      let (low, has, back) = into n (omega arith) e in
      let c = count-without m q (f n) low has in
      let r = rest (λ x. not (nat_eq x (f n)) && q x) f g (λ x lt hx.
      let (lx, qx, bx) = into x (omega arith) hx in
      let ne = eqb_apart (f x) (f n)
      (λ s. let b : x ≡ n = sym bx ∙ ap g s ∙ back in omega (arith, b, lt)) in
      (lx, rw (ne, qx) refl, bx)) in
      let h = ap unit_of e in
      omega (arith, c, r, h)

pub count-most : (n : ℕ) (p q : ℕ → Bool) → ((x : ℕ) → x < n → p x ≡ true → q x ≡ true)
    → count_below n p ≤ count_below n q
count-most n p q more = count-into n n p q (λ x. x) (λ x. x) (λ x lt h. (lt, more x lt h, refl))

pub count-split : (n : ℕ) (p q : ℕ → Bool)
    → count_below n p ≡ count_below n (λ x. p x && q x) + count_below n (λ x. p x && not (q x))
count-split zero p q = refl
count-split (suc n) p q = at (p n) (q n) (count-split n p q) where
  at : (a b : Bool) → count_below n p ≡ count_below n (λ x. p x && q x) + count_below n
      (λ x. p x && not (q x))
      → unit_of a + count_below n p ≡ unit_of (a && b) + count_below n
      (λ x. p x && q x) + (unit_of (a && not b) + count_below n (λ x. p x && not (q x)))
  at true true r = omega (arith, r)
  at true false r = omega (arith, r)
  at false b r = omega (arith, r)

-- ---- a number that passes

-- a number below n that passes, where there is one
abbrev pub chosen : ℕ → (ℕ → Bool) → ℕ
chosen zero p = 0
chosen (suc n) p = if p n then n else chosen n p

pub chosen_is : (n x : ℕ) (p : ℕ → Bool) → x < n → p x ≡ true → (chosen n p < n)
    × (p (chosen n p) ≡ true)
chosen_is zero x p lt h = absurd (omega (arith, lt))
chosen_is (suc n) x p lt h = ⊎_elim
    (λ (has : p n ≡ true). let e : chosen (suc n) p ≡ n = rw has
    refl in (omega (arith, e), ap p e ∙ has))
    (λ (out : p n ≡ false).
    let e : chosen (suc n) p ≡ chosen n p = rw out refl in
    let less : x < n = ⊎_elim (λ (l : x < n). l)
    (λ (ge : n ≤ x). let s : x ≡ n = omega arith in absurd (false≢true
    (sym out ∙ (ap p (sym s) ∙ h)))) (cases_lt x n) in
    let r = chosen_is n x p less h in
    (omega (arith, e, r.0), ap p e ∙ r.1))
    (cases_Bool (p n))

pub some_or_none : (n : ℕ) (p : ℕ → Bool) → ((x : ℕ) × (x < n) × (p x ≡ true))
    ⊎ ((x : ℕ) → x < n → p x ≡ false)
some_or_none zero p = inr (λ x lt. absurd (omega (arith, lt)))
some_or_none (suc n) p = at (some_or_none n p) (cases_Bool (p n)) where
  at : ((x : ℕ) × (x < n) × (p x ≡ true)) ⊎ ((x : ℕ) → x < n → p x ≡ false) → (p n ≡ true)
      ⊎ (p n ≡ false) → ((x : ℕ) × (x < suc n) × (p x ≡ true)) ⊎ ((x : ℕ) → x < suc n → p x ≡ false)
  at r (inl has) = inl (n, omega arith, has)
  at (inl (x, lt, has)) (inr out) = inl (x, omega arith, has)
  at (inr none) (inr out) = inr (λ x lt. ⊎_elim (λ (l : x < n). none x l)
      (λ (ge : n ≤ x). let s : x ≡ n = omega arith in ap p s ∙ out) (cases_lt x n))

-- ---- counts and sizes

count-front : (n : ℕ) (p : ℕ → Bool) → count_below (suc n) p ≡ unit_of (p 0) + count_below n
    (λ x. p (suc x))
count-front zero p = refl
count-front (suc n) p = let r : count_below (suc n) p ≡ unit_of (p 0) + count_below n
    (λ x. p (suc x)) = count-front n p in omega (arith, r)

pub size-count : (s : List Bool) → size s ≡ count_below (length s) (λ e. get_or s e false)
size-count [] = refl
size-count (b ∷ s) =
    let c = size-cons b s in
    let r = size-count s in
    let f = count-front (length s) (λ e. get_or (b ∷ s) e false) in
    omega (arith, c, r, f)
