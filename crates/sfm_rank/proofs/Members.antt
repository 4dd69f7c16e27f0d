-- One place put into a set or taken out of it, and a set of one place.
use Rattle.std.proofs.Common.{◌≡◌, ◌⊎◌, ℕ, zero, suc, ◌+◌, ◌<◌, ◌≤◌, Bool, true, false, cond, List, [], ◌∷◌, length, get_or, set, ℤ, pos, sym, ◌∙◌, arith, inl, inr, ⊎_elim, length-set, get_or-set_other, get_or-set_same}
use Rattle.std.proofs.lemmas.Bool.{false≢true, cases_eq, cases_Bool, cases_lt}
use Rattle.std.proofs.lemmas.Int.{ints}
use Rattle.std.proofs.lemmas.List.{length-replicate}
use Rattle.sfm_spec.specs.Sets.{Has, IsWithin, empty_set, size, sum_over}
use Rattle.sfm_spec.proofs.Sizes.{size-empty, weight-empty}
pub use Rattle.sfm_law.proofs.Places.{size-put, size-in}

pub has_place : (s : List Bool) (e : ℕ) → Has s e → e < length s
has_place [] e h = absurd (false≢true h)
has_place (a ∷ s) zero h = omega arith
has_place (a ∷ s) (suc e) h = let r = has_place s e h in omega (arith, r)

pub nothing : (k e : ℕ) → Has (empty_set k) e → ⊥
nothing zero e h = false≢true h
nothing (suc k) zero h = false≢true h
nothing (suc k) (suc e) h = nothing k e h

pub has_or_out : (s : List Bool) (e : ℕ) → (Has s e → ⊥) → get_or s e false ≡ false
has_or_out s e h = ⊎_elim (λ has. absurd (h has)) (λ out. out) (cases_Bool (get_or s e false))

-- a place taken out, whether it was in or not, leaves all others and at most one less
pub size-out : (s : List Bool) (e : ℕ) → e < length s → size s < suc (suc (size (set s e false)))
size-out s e h = at (get_or s e false) (size-put s e false h) where
  at : (b : Bool) → size (set s e false) + cond b 1 0 ≡ size s + 0
      → size s < suc (suc (size (set s e false)))
  at true r = omega (arith, r)
  at false r = omega (arith, r)

-- a set with a place taken in has that and those that it had
pub has_set : (s : List Bool) (e i : ℕ) → Has (set s e true) i → (i ≡ e) ⊎ Has s i
has_set s e i h = ⊎_elim (λ same. inl same)
    (λ ne. inr (sym (get_or-set_other s e i true false ne) ∙ h)) (cases_eq i e)

pub set_has : (s : List Bool) (e i : ℕ) → Has s i → Has (set s e true) i
set_has s e i h = ⊎_elim
    (λ (same : i ≡ e). let lt = has_place s i h in let le : e < length
    s = omega (arith, lt, same) in rw same (get_or-set_same s e true false le))
    (λ ne. get_or-set_other s e i true false ne ∙ h)
    (cases_eq i e)

pub set_here : (s : List Bool) (e : ℕ) → e < length s → Has (set s e true) e
set_here s e h = get_or-set_same s e true false h

pub set_within : (s t : List Bool) (e : ℕ) → IsWithin s t → Has t e → IsWithin (set s e true) t
set_within s t e w has i h = ⊎_elim (λ (same : i ≡ e). rw same has) (λ old. w i old)
    (has_set s e i h)

pub set_wider : (s : List Bool) (e : ℕ) → IsWithin s (set s e true)
set_wider s e i h = set_has s e i h

-- a set with a place taken out has those that it had, but not that
pub out_has : (s : List Bool) (e i : ℕ) → Has (set s e false) i → Has s i
out_has s e i h = ⊎_elim
    (λ (same : i ≡ e).
    let p = has_place (set s e false) i h in
    let le : e < length s = let len = length-set s e false in omega (arith, p, len, same) in
    absurd (false≢true (sym (get_or-set_same s e false false le) ∙ (let hj = rw same at h in hj))))
    (λ ne. sym (get_or-set_other s e i false false ne) ∙ h)
    (cases_eq i e)

pub out_gone : (s : List Bool) (e : ℕ) → Has (set s e false) e → ⊥
out_gone s e h =
    let p = has_place (set s e false) e h in
    let le : e < length s = let len = length-set s e false in omega (arith, p, len) in
    false≢true (sym (get_or-set_same s e false false le) ∙ h)

-- a number below n that passes a test, or none does
pub some_or_none : (p : ℕ → Bool) (n : ℕ) → ((e : ℕ) × (e < n) × (p e ≡ true))
    ⊎ ((e : ℕ) → e < n → p e ≡ false)
some_or_none p zero = inr (λ e lt. absurd (omega (arith, lt)))
some_or_none p (suc n) = at (some_or_none p n) (cases_Bool (p n)) where
  at : ((e : ℕ) × (e < n) × (p e ≡ true)) ⊎ ((e : ℕ) → e < n → p e ≡ false) → (p n ≡ true)
      ⊎ (p n ≡ false) → ((e : ℕ) × (e < suc n) × (p e ≡ true)) ⊎ ((e : ℕ) → e < suc n → p e ≡ false)
  at (inl (e, lt, is)) c = inl (e, omega (arith, lt), is)
  at (inr none) (inl is) = inl (n, omega arith, is)
  at (inr none) (inr out) = inr (λ e lt. ⊎_elim (λ (less : e < n). none e less)
      (λ (ge : n ≤ e). let same : e ≡ n = omega arith in rw same out) (cases_lt e n))

-- ---- a set of one place

abbrev pub single : ℕ → ℕ → List Bool
single k e = set (empty_set k) e true

pub length-single : (k e : ℕ) → length (single k e) ≡ k
length-single k e = length-set (empty_set k) e true ∙ length-replicate k false

pub single-has : (k e u : ℕ) → Has (single k e) u → u ≡ e
single-has k e u h = ⊎_elim (λ same. same) (λ old. absurd (nothing k u old))
    (has_set (empty_set k) e u h)

pub size-single : (k e : ℕ) → e < k → size (single k e) ≡ 1
size-single k e lt =
    let n = length-replicate k false in
    let p = size-in (empty_set k) e (omega (arith, n, lt))
    (has_or_out (empty_set k) e (nothing k e)) in
    let z = size-empty k in
    omega (arith, p, z)

pub sum-single : (k e : ℕ) (x : List ℤ) → length x ≡ k → e < k
    → sum_over (single k e) x ≡ get_or x e (pos 0)
sum-single zero e x sized lt = absurd (omega (arith, lt))
sum-single (suc k) e [] sized lt = absurd (omega (arith, sized))
sum-single (suc k) zero (y ∷ x) sized lt = let w = weight-empty k x in omega (arith, ints, w)
sum-single (suc k) (suc e) (y ∷ x) sized lt =
    let r = sum-single k e x (omega arith) (omega arith) in omega (arith, ints, r)
