-- The set that grows place by place, as long as no group has more than its cap.
-- Textbook: Schrijver, Combinatorial Optimization, section 40 (the greedy algorithm).
use Rattle.std.proofs.Common.{◌≡◌, ℕ, zero, suc, ◌+◌, ◌<◌, ◌≤◌, Bool, true, false, cond, not, ◌&&◌, ◌||◌, List, [], ◌∷◌, length, get_or, set, ℤ, pos, ◌≤ℤ◌, if◌then◌else◌, refl, sym, ◌∙◌, arith, ⊎_elim, length-set}
use Rattle.std.specs.Int.Signed.{le_z}
use Rattle.std.proofs.lemmas.Bool.{false≢true, cases_Bool, or_cases, or_left, or_right, and_from, and_parts}
use Rattle.std.proofs.lemmas.Int.{ints}
use Rattle.std.proofs.lemmas.List.{get_or_default}
use Rattle.sfm_spec.specs.Sets.{Has, IsWithin, empty_set, intersection, size}
use Rattle.sfm_spec.specs.Kinds.{Group, count_in, IsWithinCaps}
use Rattle.sfm_spec.proofs.Where.{size-cons}
use Rattle.sfm_rank.proofs.Members.{has_or_out, nothing}
use Rattle.sfm_laminar.specs.Masks.{mask, length-mask, count-mask, count_listed, count-cons}
use Rattle.sfm_laminar.specs.Groups.{IsGroup, IsBelow, AreGroups}
use Rattle.sfm_laminar.specs.Crossing.{no_group, group_at}

-- a group with the place e has no room
abbrev pub is_full : ℕ → Group → List Bool → ℕ → Bool
is_full k g t e = get_or (mask k g.members) e false && le_z g.cap (pos (count_in g t))

abbrev pub is_blocked : ℕ → List Group → List Bool → ℕ → Bool
is_blocked k [] t e = false
is_blocked k (g ∷ groups) t e = is_full k g t e || is_blocked k groups t e

-- the same as a fact
abbrev pub IsBlocked : ℕ → List Group → List Bool → ℕ → Type 0
IsBlocked k groups t e = (i : ℕ) × (i < length groups) × Has (mask k (group_at groups i).members) e
    × ((group_at groups i).cap ≤ℤ pos (count_in (group_at groups i) t))

pub blocked_from : (k : ℕ) (groups : List Group) (t : List Bool) (e : ℕ)
    → is_blocked k groups t e ≡ true → IsBlocked k groups t e
blocked_from k [] t e h = absurd (false≢true h)
blocked_from k (g ∷ groups) t e h = ⊎_elim
    (λ here. let (m, f) = and_parts (get_or (mask k g.members) e false)
    (le_z g.cap (pos (count_in g t))) here in (0, omega arith, m, omega (arith, ints, f)))
    (λ later. let (i, lt, m, f) = blocked_from k groups t e later in (suc i, omega arith, m, f))
    (or_cases (is_full k g t e) (is_blocked k groups t e) h)

le_test : (a b : ℤ) → a ≤ℤ b → le_z a b ≡ true
le_test a b h = ⊎_elim (λ t. t) (λ f. absurd (omega (arith, ints, f, h))) (cases_Bool (le_z a b))

pub from_blocked : (k : ℕ) (groups : List Group) (t : List Bool) (e : ℕ) → IsBlocked k groups t e
    → is_blocked k groups t e ≡ true
from_blocked k [] t e (i, lt, m, f) = absurd (omega arith)
from_blocked k (g ∷ groups) t e (zero, lt, m, f) =
    or_left (is_full k g t e) (is_blocked k groups t e)
    (and_from (get_or (mask k g.members) e false) (le_z g.cap (pos (count_in g t))) m
    (le_test g.cap (pos (count_in g t)) f))
from_blocked k (g ∷ groups) t e (suc i, lt, m, f) =
    or_right (is_full k g t e) (is_blocked k groups t e)
    (from_blocked k groups t e (i, omega arith, m, f))

-- the place n of s is taken to t
abbrev pub takes : ℕ → List Group → List Bool → List Bool → ℕ → Bool
takes k groups s t n = get_or s n false && not (is_blocked k groups t n)

abbrev pub step : ℕ → List Group → List Bool → List Bool → ℕ → List Bool
step k groups s t n = if takes k groups s t n then set t n true else t

-- the places of s below n that are taken, one after another
abbrev pub grown : ℕ → List Group → List Bool → ℕ → List Bool
grown k groups s zero = empty_set k
grown k groups s (suc n) = step k groups s (grown k groups s n) n

-- ---- counts

pub count-within : (es : List ℕ) (t u : List Bool) → IsWithin t u
    → count_listed es t ≤ count_listed es u
count-within [] t u h = omega arith
count-within (e ∷ es) t u h = at (get_or t e false) (get_or u e false) (h e) (count-cons e es t)
    (count-cons e es u) (count-within es t u h) where
      at : (a b : Bool) → (a ≡ true → b ≡ true)
          → count_listed (e ∷ es) t ≡ cond a 1 0 + count_listed es
          t → count_listed (e ∷ es) u ≡ cond b 1 0 + count_listed es u
          → count_listed es t ≤ count_listed es u
          → count_listed (e ∷ es) t ≤ count_listed (e ∷ es) u
      at true true w c d r = omega (arith, c, d, r)
      at true false w c d r = absurd (false≢true (w refl))
      at false true w c d r = omega (arith, c, d, r)
      at false false w c d r = omega (arith, c, d, r)

intersection-set : (s t : List Bool) (e : ℕ) → length s ≡ length t → e < length t
    → get_or t e false ≡ false → size (intersection s (set t e true)) ≡ cond (get_or s e false) 1
    0 + size (intersection s t)
intersection-set [] t e h lt out = absurd (omega arith)
intersection-set (a ∷ s) [] e h lt out = absurd (omega arith)
intersection-set (a ∷ s) (true ∷ t) zero h lt out = absurd (false≢true (sym out))
intersection-set (true ∷ s) (false ∷ t) zero h lt out =
    let l = size-cons true (intersection s t) in let r = size-cons false
    (intersection s t) in omega (arith, l, r)
intersection-set (false ∷ s) (false ∷ t) zero h lt out =
    let l = size-cons false (intersection s t) in omega (arith, l)
intersection-set (a ∷ s) (b ∷ t) (suc e) h lt out =
    let l = size-cons (a && b) (intersection s (set t e true)) in
    let m = size-cons (a && b) (intersection s t) in
    let r = intersection-set s t e (omega arith) (omega arith) out in
    omega (arith, l, m, r)

pub count-set : (k : ℕ) (g : Group) (t : List Bool) (e : ℕ) → IsGroup g → IsBelow k g → length t ≡ k
    → e < k → get_or t e false ≡ false
    → count_in g (set t e true) ≡ cond (get_or (mask k g.members) e false) 1 0 + count_in g t
count-set k g t e ok below kt lt out =
    let a = count-mask k g.members t kt ok.ascending below in
    let b = count-mask k g.members (set t e true) (length-set t e true ∙ kt) ok.ascending below in
    let r = intersection-set (mask k g.members) t e (length-mask k g.members ∙ sym kt)
    (omega (arith, lt, kt)) out in
    omega (arith, a, b, r)

-- ---- one place more

-- with a place that no group blocks, no group has more than its cap
pub capped-set : (k : ℕ) (groups : List Group) (t : List Bool) (e : ℕ) → AreGroups k groups
    → length t ≡ k → e < k → get_or t e false ≡ false → is_blocked k groups t e ≡ false
    → IsWithinCaps groups t
    → IsWithinCaps groups (set t e true)
capped-set k groups t e ok kt lt out free capped i d li =
    let g = get_or groups i d in
    let c = count-set k g t e (ok.each i d li) (ok.below i d li) kt lt out in
    let old = capped i d li in
    at (get_or (mask k g.members) e false) refl c old where
      same : get_or groups i d ≡ group_at groups i
      same = get_or_default groups i d no_group li

      at : (b : Bool) → get_or (mask k (get_or groups i d).members) e false ≡ b
          → count_in (get_or groups i d) (set t e true) ≡ cond
          (get_or (mask k (get_or groups i d).members) e false) 1 0 + count_in (get_or groups i d) t
          → pos (count_in (get_or groups i d) t) ≤ℤ (get_or groups i d).cap
          → pos (count_in (get_or groups i d) (set t e true)) ≤ℤ (get_or groups i d).cap
      at false m c old = let c' = rw m at c in omega (arith, ints, c', old)
      at true m c old =
          let c' = rw m at c in
          ⊎_elim
          (λ full. absurd (false≢true
          (sym free ∙ from_blocked k groups t e
          (i, li, rw (← same) m, rw (← same) (omega (arith, ints, full))))))
          (λ room. omega (arith, ints, c', room))
          (cases_Bool (le_z (get_or groups i d).cap (pos (count_in (get_or groups i d) t))))

-- with a place that a group blocks, it has more than its cap
pub over-set : (k : ℕ) (groups : List Group) (t : List Bool) (e : ℕ) → AreGroups k groups
    → length t ≡ k → e < k → get_or t e false ≡ false → is_blocked k groups t e ≡ true
    → IsWithinCaps groups (set t e true) → ⊥
over-set k groups t e ok kt lt out blocked capped =
    let (i, li, has, full) = blocked_from k groups t e blocked in
    let c = rw has at (count-set k (group_at groups i) t e (ok.each i no_group li)
    (ok.below i no_group li) kt lt out) in
    let h = capped i no_group li in
    absurd (omega (arith, ints, full, c, h))

pub count-none : (k : ℕ) (es : List ℕ) → count_listed es (empty_set k) ≡ 0
count-none k [] = refl
count-none k (e ∷ es) = at (get_or (empty_set k) e false) (has_or_out (empty_set k) e (nothing k e))
    (count-cons e es (empty_set k)) (count-none k es) where
      at : (b : Bool) → b ≡ false → count_listed (e ∷ es) (empty_set k) ≡ cond b 1 0 + count_listed
          es
          (empty_set k) → count_listed es (empty_set k) ≡ 0
          → count_listed (e ∷ es) (empty_set k) ≡ 0
      at true out c r = absurd (false≢true (sym out))
      at false out c r = omega (arith, c, r)
