-- Groups of places as sets.
use Rattle.std.proofs.Common.{◌≡◌, ℕ, zero, suc, ◌+◌, ◌<◌, Bool, true, false, cond, ◌&&◌, List, [], ◌∷◌, length, get_or, set, count_by, ℤ, pos, ◌+ℤ◌, refl, sym, ◌∙◌, arith, ⊎_elim, length-set, get_or-set_same}
use Rattle.std.specs.List.{All}
use Rattle.std.proofs.lemmas.Bool.{false≢true, cases_Bool}
use Rattle.std.proofs.lemmas.List.{length-replicate}
use Rattle.std.proofs.lemmas.List.Sums.{sum_by-cons}
use Rattle.std.proofs.lemmas.List.Elements.{All-head, All-tail}
use Rattle.sfm_spec.specs.Sets.{Has, empty_set, intersection, size}
use Rattle.sfm_spec.proofs.Where.{size-cons}
use Rattle.sfm_rank.proofs.Members.{has_set, nothing, set_has}
use Rattle.sfm_laminar.specs.Groups.{IsAscending}

-- the set of some of k places
abbrev pub mask : ℕ → List ℕ → List Bool
mask k [] = empty_set k
mask k (e ∷ es) = set (mask k es) e true

pub length-mask : (k : ℕ) (es : List ℕ) → length (mask k es) ≡ k
length-mask k [] = length-replicate k false
length-mask k (e ∷ es) = length-set (mask k es) e true ∙ length-mask k es

-- ---- who is in

-- one of the numbers is e
abbrev pub Lists : List ℕ → ℕ → Type 0
Lists es e = (i : ℕ) × (i < length es) × (get_or es i 0 ≡ e)

pub mask-lists : (k : ℕ) (es : List ℕ) (e : ℕ) → Has (mask k es) e → Lists es e
mask-lists k [] e h = absurd (nothing k e h)
mask-lists k (d ∷ es) e h = ⊎_elim (λ (same : e ≡ d). (0, omega arith, sym same))
    (λ has. let (i, lt, is) = mask-lists k es e has in (suc i, omega arith, is))
    (has_set (mask k es) d e h)

pub lists-mask : (k : ℕ) (es : List ℕ) (e : ℕ) → All (λ i. i < k) es → Lists es e
    → Has (mask k es) e
lists-mask k [] e below (i, lt, is) = absurd (omega arith)
lists-mask k (d ∷ es) e below (zero, lt, is) =
    let h = All-head (λ i. i < k) d es below in
    let len = length-mask k es in
    rw (← is) (get_or-set_same (mask k es) d true false (omega (arith, h, len)))
lists-mask k (d ∷ es) e below (suc i, lt, is) =
    set_has (mask k es) d e (lists-mask k es e (All-tail (λ i. i < k) d es below)
    (i, omega arith, is))

-- ---- sums and counts over the members

abbrev pub sum_listed : List ℕ → List ℤ → ℤ
sum_listed [] x = pos 0
sum_listed (e ∷ es) x = get_or x e (pos 0) +ℤ sum_listed es x

pub fresh : (k e : ℕ) (es : List ℕ) → IsAscending (e ∷ es) → get_or (mask k es) e false ≡ false
fresh k e es up = ⊎_elim
    (λ has. let (i, lt, is) = mask-lists k es e has in let u = up 0 (suc i) (omega arith)
    (omega arith) in absurd (omega (arith, u, is)))
    (λ out. out)
    (cases_Bool (get_or (mask k es) e false))

pub ascending-tail : (e : ℕ) (es : List ℕ) → IsAscending (e ∷ es) → IsAscending es
ascending-tail e es up i j lt in_range = up (suc i) (suc j) (omega arith) (omega arith)

-- how many of the numbers are in t
abbrev pub count_listed : List ℕ → List Bool → ℕ
count_listed es t = count_by (λ e. get_or t e false) es

pub count-cons : (e : ℕ) (es : List ℕ) (t : List Bool)
    → count_listed (e ∷ es) t ≡ cond (get_or t e false) 1 0 + count_listed es t
count-cons e es t = sum_by-cons (λ i. cond (get_or t i false) 1 0) e es

intersection-none : (k : ℕ) (t : List Bool) → size (intersection (empty_set k) t) ≡ 0
intersection-none zero t = refl
intersection-none (suc k) [] = refl
intersection-none (suc k) (b ∷ t) = size-cons false (intersection (empty_set k) t)
    ∙ (let r = intersection-none k t in omega (arith, r))

intersection-in : (s t : List Bool) (e : ℕ) → length s ≡ length t → e < length s
    → get_or s e false ≡ false → size (intersection (set s e true) t) ≡ cond (get_or t e false) 1
    0 + size (intersection s t)
intersection-in [] t e h lt out = absurd (omega arith)
intersection-in (a ∷ s) [] e h lt out = absurd (omega arith)
intersection-in (true ∷ s) (b ∷ t) zero h lt out = absurd (false≢true (sym out))
intersection-in (false ∷ s) (b ∷ t) zero h lt out =
    let l = size-cons b (intersection s t) in let r = size-cons false
    (intersection s t) in omega (arith, l, r)
intersection-in (a ∷ s) (b ∷ t) (suc e) h lt out =
    let l = size-cons (a && b) (intersection (set s e true) t) in
    let m = size-cons (a && b) (intersection s t) in
    let r = intersection-in s t e (omega arith) (omega arith) out in
    omega (arith, l, m, r)

pub count-mask : (k : ℕ) (es : List ℕ) (t : List Bool) → length t ≡ k → IsAscending es
    → All (λ i. i < k) es → size (intersection (mask k es) t) ≡ count_listed es t
count-mask k [] t kt up below = intersection-none k t
count-mask k (e ∷ es) t kt up below =
    let h = All-head (λ i. i < k) e es below in
    let len = length-mask k es in
    let r = count-mask k es t kt (ascending-tail e es up) (All-tail (λ i. i < k) e es below) in
    let p = intersection-in (mask k es) t e (len ∙ sym kt) (omega (arith, h, len))
    (fresh k e es up) in
    let c = count-cons e es t in
    omega (arith, r, p, c)
