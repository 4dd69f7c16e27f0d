-- The sets of k places by their numbers: place j counts 2^j.
use Rattle.std.proofs.Common.{◌≡◌, ℕ, zero, suc, ◌+◌, ◌*◌, ◌/◌, ◌%◌, ◌^◌, ◌<◌, ◌≤◌, Bool, true, false, List, [], ◌∷◌, length, get_or, set, nat_eq, refl, sym, ap, ◌∙◌, arith, ⊎_elim}
use Rattle.std.proofs.Math.Nat.{pow-succ', div-div-eq-div-mul}
use Rattle.std.proofs.lemmas.Bool.{cases_eq, ne_eqb, eq-eqb, true≢false}
use Rattle.sfm_spec.specs.Kinds.{binary}
use Rattle.sfm_spec.specs.Sets.{empty_set}
use Rattle.sfm_law.proofs.Greedy.{front}

-- the set of k places with the number n
abbrev pub members : ℕ → ℕ → List Bool
members zero n = []
members (suc k) n = nat_eq (n % 2) 1 ∷ members k (n / 2)

pub length-members : (k n : ℕ) → length (members k n) ≡ k
length-members zero n = refl
length-members (suc k) n = let r = length-members k (n / 2) in omega (arith, r)

pub binary-lt : (s : List Bool) → binary s < 2 ^ length s
binary-lt [] = omega arith
binary-lt (true ∷ s) = let r = binary-lt s in let p = pow-succ' 2 (length s) in omega (arith, r, p)
binary-lt (false ∷ s) = let r = binary-lt s in let p = pow-succ' 2 (length s) in omega (arith, r, p)

pub members-binary : (s : List Bool) → members (length s) (binary s) ≡ s
members-binary [] = refl
members-binary (true ∷ s) =
    let odd : (1 + 2 * binary s) % 2 ≡ 1 = omega arith in
    let half : (1 + 2 * binary s) / 2 ≡ binary s = omega arith in
    rw (odd, half) (ap (λ r. true ∷ r) (members-binary s))
members-binary (false ∷ s) =
    let even : (0 + 2 * binary s) % 2 ≡ 0 = omega arith in
    let half : (0 + 2 * binary s) / 2 ≡ binary s = omega arith in
    rw (even, half) (ap (λ r. false ∷ r) (members-binary s))

pub binary-members : (k n : ℕ) → n < 2 ^ k → binary (members k n) ≡ n
binary-members zero n h = omega arith
binary-members (suc k) n h =
    let p = pow-succ' 2 k in
    let r = binary-members k (n / 2) (omega (arith, p)) in
    ⊎_elim (λ e. rw (eq-eqb (n % 2) 1 e, r) (omega (arith, e)))
    (λ ne. rw (ne_eqb (n % 2) 1 ne, r) (omega (arith, ne))) (cases_eq (n % 2) 1)

pub binary-set : (s : List Bool) (a : ℕ) → a < length s → get_or s a false ≡ false
    → binary (set s a true) ≡ binary s + 2 ^ a
binary-set [] a h out = absurd (omega arith)
binary-set (true ∷ s) zero h out = absurd (true≢false out)
binary-set (false ∷ s) zero h out = omega arith
binary-set (true ∷ s) (suc a) h out = let r = binary-set s a (omega arith) out in let p = pow-succ'
    2 a in omega (arith, r, p)
binary-set (false ∷ s) (suc a) h out = let r = binary-set s a (omega arith) out in let p = pow-succ'
    2 a in omega (arith, r, p)

pub get_or-members : (k n j : ℕ) → j < k → get_or (members k n) j false ≡ nat_eq (n / 2 ^ j % 2) 1
get_or-members zero n j h = absurd (omega arith)
get_or-members (suc k) n zero h = let e : n / 2 ^ zero ≡ n = omega arith in rw e refl
get_or-members (suc k) n (suc j) h =
    let e : n / 2 ^ suc j ≡ n / 2 / 2 ^ j = ap (λ d. n / d) (pow-succ' 2 j)
    ∙ sym (div-div-eq-div-mul n 2 (2 ^ j)) in
    rw e (get_or-members k (n / 2) j (omega arith))

pub binary-none : (k : ℕ) → binary (empty_set k) ≡ 0
binary-none zero = refl
binary-none (suc k) = let r = binary-none k in omega (arith, r)

pub binary-front : (k j : ℕ) → j ≤ k → binary (front k j) + 1 ≡ 2 ^ j
binary-front zero zero h = refl
binary-front zero (suc j) h = absurd (omega arith)
binary-front (suc k) zero h = let r = binary-front k zero (omega arith) in omega (arith, r)
binary-front (suc k) (suc j) h = let r = binary-front k j (omega arith) in let p = pow-succ' 2
    j in omega (arith, r, p)
