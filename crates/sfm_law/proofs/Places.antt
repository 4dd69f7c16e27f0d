-- One place put into a set or taken out of it, and two places between which something is exchanged.
use Rattle.std.proofs.Common.{◌≡◌, ◌≢◌, ◌↔◌, ℕ, zero, suc, ◌+◌, ◌<◌, Bool, true, false, cond, List, [], ◌∷◌, length, get_or, set, ℤ, pos, ◌+ℤ◌, ◌-ℤ◌, refl, arith, ⊎_elim, get_or-set_other, get_or-set_same}
use Rattle.std.proofs.lemmas.Bool.{false≢true, cases_eq}
use Rattle.std.proofs.lemmas.Int.{ints}
use Rattle.std.proofs.lemmas.List.{length-replicate}
use Rattle.sfm_spec.specs.Sets.{Has, whole_set, size, sum_over}
use Rattle.sfm_spec.specs.Terms.{exchanged}
use Rattle.sfm_spec.proofs.MoveOrder.{exchanged-first, exchanged-second, exchanged-other}
use Rattle.sfm_spec.proofs.Sets.{Has-whole}
use Rattle.sfm_spec.proofs.Sums.{sum_over-exchanged, length-exchanged}
use Rattle.sfm_spec.proofs.Where.{size-cons}

-- ---- one place

pub size-put : (s : List Bool) (e : ℕ) (b : Bool) → e < length s
    → size (set s e b) + cond (get_or s e false) 1 0 ≡ size s + cond b 1 0
size-put [] e b h = absurd (omega arith)
size-put (a ∷ s) zero b h = let l = size-cons a s in let r = size-cons b s in omega (arith, l, r)
size-put (a ∷ s) (suc e) b h =
    let l = size-cons a s in let m = size-cons a (set s e b) in let r = size-put s e b
    (omega arith) in omega (arith, l, m, r)

pub size-in : (s : List Bool) (e : ℕ) → e < length s → get_or s e false ≡ false
    → size (set s e true) ≡ suc (size s)
size-in s e h out = let r = rw out at (size-put s e true h) in omega (arith, r)

-- a set that loses a place has what it had of the others
pub others_in : (P : ℕ → Type 0) (s : List Bool) (u v : ℕ) → u < length s → Has s v ↔ P v
    → Has (set s u false) v ↔ ((v ≢ u) × P v)
others_in P s u v lt is = ⊎_elim
    (λ (same : v ≡ u). rw (same, get_or-set_same s u false false lt)
    ((λ h. absurd (false≢true h)), (λ (ne, p). absurd (ne refl))))
    (λ (ne : v ≢ u). rw (get_or-set_other s u v false false ne)
    ((λ h. (ne, is.0 h)), (λ (ne', p). is.1 p)))
    (cases_eq v u)

-- ---- two places

-- what holds of each of two places, and of all others, holds of all
pub by_places : (u v : ℕ) (P : ℕ → Type 0) → P u → P v → ((e : ℕ) → e ≢ u → e ≢ v → P e) → (e : ℕ)
    → P e
by_places u v P first second others e = ⊎_elim
    (λ (same : e ≡ u). rw same first)
    (λ (eu : e ≢ u). ⊎_elim
    (λ (same : e ≡ v). rw same second)
    (λ (ev : e ≢ v). others e eu ev)
    (cases_eq e v))
    (cases_eq e u)

-- the same of the entries once u got a of v
pub by_exchange : (x : List ℤ) (u v : ℕ) (a : ℤ) → u < length x → v < length x → u ≢ v
    → (P : ℕ → ℤ → Type 0) → P u (get_or x u (pos 0) +ℤ a) → P v (get_or x v (pos 0) -ℤ a)
    → ((e : ℕ) → e ≢ u → e ≢ v → P e (get_or x e (pos 0))) → (e : ℕ)
    → P e (get_or (exchanged x u v a) e (pos 0))
by_exchange x u v a ku kv ne P first second others =
    by_places u v (λ e. P e (get_or (exchanged x u v a) e (pos 0)))
    (rw (exchanged-first x u v a ku ne) first)
    (rw (exchanged-second x u v a kv) second)
    (λ e eu ev. rw (exchanged-other x u v e a eu ev) (others e eu ev))

-- an exchange leaves the sum of all entries
pub whole-exchanged : (x : List ℤ) (u v : ℕ) (a : ℤ) → u < length x → v < length x → u ≢ v
    → sum_over (whole_set (length (exchanged x u v a))) (exchanged x u v a) ≡ sum_over
    (whole_set (length x)) x
whole-exchanged x u v a ku kv ne =
    let wu : Has (whole_set (length x)) u = Has-whole (length x) u ku in
    let wv : Has (whole_set (length x)) v = Has-whole (length x) v kv in
    let plain = rw (wu, wv) at (sum_over-exchanged (whole_set (length x)) x u v a
    (length-replicate (length x) true) ku kv ne) in
    rw (length-exchanged x u v a) (omega (arith, ints, plain))
