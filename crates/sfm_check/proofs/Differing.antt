-- Lists of numbers that all differ: two of them with the same members add up to the same, and
-- rising ones are the same list.
use Rattle.std.proofs.Common.{◌≡◌, ◌⊎◌, inl, inr, ⊎_elim, ℕ, zero, suc, ◌+◌, ◌<◌, List, [], ◌∷◌, ◌++◌, refl, sym, ap, arith, sum_by, subst}
use Rattle.std.specs.Prelude.{Contains}
use Rattle.std.specs.List.Sorted.{IsStrictlyIncreasing}
use Rattle.std.proofs.lemmas.List.Elements.{Contains-append_left, Contains-append_right, Contains-append_cases}
use Rattle.std.proofs.lemmas.List.Sums.{sum_by-append, sum_by-cons}

-- no member stands twice
abbrev pub Differ : List ℕ → Type 0
Differ [] = Unit {0}
Differ (x ∷ xs) = (Contains xs x → ⊥) × Differ xs

-- a member of a list is its first one or one of the others
pub cons_cases : (y : ℕ) (ys : List ℕ) (x : ℕ) → Contains (y ∷ ys) x → (y ≡ x) ⊎ Contains ys x
cons_cases y ys x (zero, l, e) = inl e
cons_cases y ys x (suc k, l, e) = inr (k, omega arith, e)

pub cons_first : (y : ℕ) (ys : List ℕ) → Contains (y ∷ ys) y
cons_first y ys = (0, omega arith, refl)

pub cons_rest : (y : ℕ) (ys : List ℕ) (x : ℕ) → Contains ys x → Contains (y ∷ ys) x
cons_rest y ys x (k, l, e) = (suc k, omega arith, e)

pub none_in_nil : (x : ℕ) → Contains [] x → ⊥
none_in_nil x (k, l, e) = omega arith

-- a list parts at a member
abbrev Parts : List ℕ → ℕ → Type 0
Parts ys x = (us : List ℕ) × (vs : List ℕ) × (ys ≡ us ++ x ∷ vs)

parts : (ys : List ℕ) (x : ℕ) → Contains ys x → Parts ys x
parts [] x h = absurd (none_in_nil x h)
parts (y ∷ ys) x h = ⊎_elim
    (λ e. ([], ys, ap (λ z. z ∷ ys) e))
    (λ r. let (us, vs, e) = parts ys x r in (y ∷ us, vs, ap (λ zs. y ∷ zs) e))
    (cons_cases y ys x h)

-- without the member at which it parts
differ_parts : (us : List ℕ) (x : ℕ) (vs : List ℕ) → Differ (us ++ x ∷ vs) → Differ (us ++ vs)
    × (Contains (us ++ vs) x → ⊥)
differ_parts [] x vs d = (d.1, d.0)
differ_parts (u ∷ us) x vs d = at (differ_parts us x vs d.1) where
  back : Contains (us ++ vs) u → Contains (us ++ x ∷ vs) u
  back h = ⊎_elim (λ l. Contains-append_left us (x ∷ vs) u l)
      (λ r. Contains-append_right us (x ∷ vs) u (cons_rest x vs u r))
      (Contains-append_cases us vs u h)

  at : Differ (us ++ vs) × (Contains (us ++ vs) x → ⊥) → Differ (u ∷ (us ++ vs))
      × (Contains (u ∷ (us ++ vs)) x → ⊥)
  at (rest, out) = (
    ((λ h. d.0 (back h)), rest),
    (λ h. ⊎_elim (λ e. d.0 (Contains-append_right us (x ∷ vs) u (0, omega arith, sym e)))
        (λ r. out r) (cons_cases u (us ++ vs) x h)),
  )

-- the same members, each once: the same sum
pub sum_by-same : (g : ℕ → ℕ) (xs ys : List ℕ) → Differ xs → Differ ys
    → ((x : ℕ) → Contains xs x → Contains ys x) → ((x : ℕ) → Contains ys x → Contains xs x)
    → sum_by g xs ≡ sum_by g ys
sum_by-same g [] [] dx dy to from = refl
sum_by-same g [] (y ∷ ys) dx dy to from = absurd (none_in_nil y (from y (cons_first y ys)))
sum_by-same g (x ∷ xs) ys dx dy to from =
    at (λ zs. sum_by-same g xs zs dx.1) (parts ys x (to x (cons_first x xs))) where
      at : ((zs : List ℕ) → Differ zs → ((z : ℕ) → Contains xs z → Contains zs z)
          → ((z : ℕ) → Contains zs z → Contains xs z) → sum_by g xs ≡ sum_by g zs) → Parts ys x
          → sum_by g (x ∷ xs) ≡ sum_by g ys
      at again (us, vs, e) =
          let d : Differ (us ++ x ∷ vs) = rw e at dy in
          let p = differ_parts us x vs d in
          let rest = again (us ++ vs) p.0 (forth us vs e) (back us vs e d) in
          let one = sum_by-cons g x xs in
          let two = ap (sum_by g) e in
          let three = sum_by-append g us (x ∷ vs) in
          let four = sum_by-cons g x vs in
          let five = sum_by-append g us vs in
          omega (arith, rest, one, two, three, four, five) where
            forth : (us vs : List ℕ) → ys ≡ us ++ x ∷ vs → (z : ℕ) → Contains xs z
                → Contains (us ++ vs) z
            forth us vs e z h =
                let c : Contains (us ++ x ∷ vs) z = rw e at (to z (cons_rest x xs z h)) in
                ⊎_elim
                (λ l. Contains-append_left us vs z l)
                (λ r. ⊎_elim (λ same. absurd (dx.0 (subst (Contains xs) (sym same) h)))
                (λ s. Contains-append_right us vs z s) (cons_cases x vs z r))
                (Contains-append_cases us (x ∷ vs) z c)

            back : (us vs : List ℕ) → ys ≡ us ++ x ∷ vs → Differ (us ++ x ∷ vs) → (z : ℕ)
                → Contains (us ++ vs) z → Contains xs z
            back us vs e d z h =
                let c : Contains ys z = rw e
                (⊎_elim (λ l. Contains-append_left us (x ∷ vs) z l)
                (λ r. Contains-append_right us (x ∷ vs) z (cons_rest x vs z r))
                (Contains-append_cases us vs z h)) in
                ⊎_elim (λ same. absurd ((differ_parts us x vs d).1
                (subst (Contains (us ++ vs)) (sym same) h))) (λ r. r) (cons_cases x xs z (from z c))

-- ---- rising lists

increasing_tail : (x : ℕ) (xs : List ℕ) → IsStrictlyIncreasing (x ∷ xs) → IsStrictlyIncreasing xs
increasing_tail x xs h k l = let e : suc k + 1 ≡ suc (k + 1) = omega arith in rw e at
    (h (suc k) (omega arith))

-- the members behind the first one are greater
pub increasing_above : (x : ℕ) (xs : List ℕ) → IsStrictlyIncreasing (x ∷ xs) → (y : ℕ)
    → Contains xs y → x < y
increasing_above x [] h y c = absurd (none_in_nil y c)
increasing_above x (z ∷ xs) h y c =
    let first : x < z = h 0 (omega arith) in
    ⊎_elim (λ e. omega arith) (λ r. let more = increasing_above z xs (increasing_tail x (z ∷ xs) h)
    y r in omega (arith, more)) (cons_cases z xs y c)

pub increasing_differ : (xs : List ℕ) → IsStrictlyIncreasing xs → Differ xs
increasing_differ [] h = tt
increasing_differ (x ∷ xs) h = (
  (λ c. let l = increasing_above x xs h x c in omega (arith, l)),
  increasing_differ xs (increasing_tail x xs h),
)

-- the same members in rising order: the same list
pub increasing_same : (xs ys : List ℕ) → IsStrictlyIncreasing xs → IsStrictlyIncreasing ys
    → ((x : ℕ) → Contains xs x → Contains ys x) → ((x : ℕ) → Contains ys x → Contains xs x)
    → xs ≡ ys
increasing_same [] [] hx hy to from = refl
increasing_same [] (y ∷ ys) hx hy to from = absurd (none_in_nil y (from y (cons_first y ys)))
increasing_same (x ∷ xs) [] hx hy to from = absurd (none_in_nil x (to x (cons_first x xs)))
increasing_same (x ∷ xs) (y ∷ ys) hx hy to from =
    at (increasing_same xs ys (increasing_tail x xs hx) (increasing_tail y ys hy)) heads where
      heads : x ≡ y
      heads = ⊎_elim
          (λ e. sym e)
          (λ inside. ⊎_elim (λ e. e) (λ back. let a = increasing_above y ys hy x
          inside in let b = increasing_above x xs hx y back in absurd (omega (arith, a, b)))
          (cons_cases x xs y (from y (cons_first y ys))))
          (cons_cases y ys x (to x (cons_first x xs)))

      at : (((z : ℕ) → Contains xs z → Contains ys z) → ((z : ℕ) → Contains ys z → Contains xs z)
          → xs ≡ ys) → x ≡ y → (x ∷ xs) ≡ (y ∷ ys)
      at again e =
          let rest = again
          (λ z c. ⊎_elim (λ same. let a = increasing_above x xs hx z
          c in absurd (omega (arith, a, same, e))) (λ r. r)
          (cons_cases y ys z (to z (cons_rest x xs z c))))
          (λ z c. ⊎_elim (λ same. let a = increasing_above y ys hy z
          c in absurd (omega (arith, a, same, e))) (λ r. r)
          (cons_cases x xs z (from z (cons_rest y ys z c)))) in
          cc
