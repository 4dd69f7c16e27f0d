-- A table in which places come along with others, as a preorder: its classes, by their first
-- places, and how many places a class and all that it needs have.
use Rattle.std.proofs.Common.{◌≡◌, ◌≢◌, ◌⊎◌, ◌↔◌, inl, inr, ⊎_elim, ℕ, zero, suc, ◌+◌, ◌<◌, ◌≤◌, Bool, true, false, not, ◌&&◌, List, [], ◌∷◌, ◌++◌, length, get_or, nat_eq, if◌then◌else◌, sym, ap, ◌∙◌, arith, eq-eqb}
use Rattle.std.specs.Prelude.{Contains}
use Rattle.std.specs.List.Sorted.{IsStrictlyIncreasing}
use Rattle.std.proofs.lemmas.Bool.{both_ways, cases_lt, and_from, and_parts, cases_Bool, ne_eqb}
use Rattle.std.proofs.lemmas.List.{length_push, get_or_push, get_or_append_left, get_or_past, length-replicate}
use Rattle.std.proofs.lemmas.List.Elements.{Contains-get_or, Contains-append_left, Contains-push, Contains-push_cases}
use Rattle.sfm_spec.specs.Sets.{Has, size, union, intersection, empty_set}
use Rattle.sfm_spec.proofs.Sets.{same_sets, in_first, in_second}
use Rattle.sfm_spec.proofs.Sizes.{size-modular, size-empty}
use Rattle.sfm_spec.proofs.Lattice.{none_in_empty}
use Rattle.sfm_extreme.specs.Pulls.{AreSquare, IsFirstPlace, Pulls, needs_upto, row_of}

-- ---- the least number that passes a test

-- the least below m, or none
abbrev LeastBelow : (ℕ → Bool) → ℕ → Type 0
LeastBelow p m = (k : ℕ) × (k < m) × (p k ≡ true) × ((j : ℕ) → j < k → p j ≡ false)

least_below : (p : ℕ → Bool) (m : ℕ) → LeastBelow p m ⊎ ((j : ℕ) → j < m → p j ≡ false)
least_below p zero = inr (λ j l. absurd (omega arith))
least_below p (suc m) = at (least_below p m) (cases_Bool (p m)) where
  all : ((j : ℕ) → j < m → p j ≡ false) → p m ≡ false → (j : ℕ) → j < suc m → p j ≡ false
  all h f j l = ⊎_elim (λ lt. h j lt) (λ ge. let is : j ≡ m = omega arith in rw is f) (cases_lt j m)

  at : LeastBelow p m ⊎ ((j : ℕ) → j < m → p j ≡ false) → (p m ≡ true) ⊎ (p m ≡ false)
      → LeastBelow p (suc m) ⊎ ((j : ℕ) → j < suc m → p j ≡ false)
  at (inl (k, l, t, b)) c = inl (k, omega arith, t, b)
  at (inr none) (inl t) = inl (m, omega arith, t, none)
  at (inr none) (inr f) = inr (all none f)

-- ---- sets without places

size_of_none : (s : List Bool) → ((e : ℕ) → Has s e → ⊥) → size s ≡ 0
size_of_none s none =
    ap size (same_sets s (empty_set (length s)) (sym (length-replicate (length s) false))
    (λ e l h. absurd (none e h)) (λ e l h. absurd (none_in_empty (length s) e h)))
    ∙ size-empty (length s)

-- two sets without a common place
pub size-disjoint : (s t : List Bool) → length s ≡ length t → ((e : ℕ) → Has s e → Has t e → ⊥)
    → size (union s t) ≡ size s + size t
size-disjoint s t same apart =
    let m = size-modular s t same in
    let z = size_of_none (intersection s t)
    (λ e h. apart e (in_first s t e same h) (in_second s t e same h)) in
    omega (arith, m, z)

-- ---- the classes

-- the places that come along with what comes along, come along
pub record IsPreorder (rows : List (List Bool)) : Type 0 where
  pub square : AreSquare rows
  pub here : (e d : ℕ) → Pulls rows e d → Pulls rows e e × Pulls rows d d
  pub along : (a b c : ℕ) → Pulls rows a b → Pulls rows b c → Pulls rows a c

module _ (rows : List (List Bool)) (pre : IsPreorder rows) where
  -- a place whose row has a place is one of the rows
  row_below : (e d : ℕ) → Pulls rows e d → e < length rows
  row_below e d h = ⊎_elim (λ l. l) (λ ge. absurd (past e d ge h)) (cases_lt e (length rows)) where
    past : (e d : ℕ) → length rows ≤ e → Pulls rows e d → ⊥
    past e d ge h =
        let z : row_of rows e ≡ [] = get_or_past rows e [] ge in
        none (row_of rows e) z h where
          none : (s : List Bool) → s ≡ [] → Has s d → ⊥
          none [] e h = cc
          none (b ∷ s) e h = cc

  -- a place that comes along is one of the rows
  pub pulled_below : (e d : ℕ) → Pulls rows e d → d < length rows
  pulled_below e d h = row_below d d (pre.here e d h).1

  both : ℕ → ℕ → Bool
  both e d = get_or (row_of rows e) d false && get_or (row_of rows d) e false

  -- each place that comes along with itself is in the class of a first place
  pub first_exists : (e : ℕ) → Pulls rows e e → (f : ℕ) × (f < length rows) × IsFirstPlace rows f
      × Pulls rows f e × Pulls rows e f
  unfolding both
  first_exists e self = at (least_below (both e) (suc e)) where
    at : LeastBelow (both e) (suc e) ⊎ ((j : ℕ) → j < suc e → both e j ≡ false) → (f : ℕ)
        × (f < length rows) × IsFirstPlace rows f × Pulls rows f e × Pulls rows e f
    at (inr none) = absurd (both_ways (both e e) (none e (omega arith))
        (and_from (get_or (row_of rows e) e false) (get_or (row_of rows e) e false) self self))
    at (inl (f, l, t, none)) =
        let p = and_parts (get_or (row_of rows e) f false) (get_or (row_of rows f) e false) t in (
          f,
          row_below f e p.1,
          record {
            here = (pre.here f e p.1).0;
            least = λ d ld fd df. both_ways (both e d) (none d ld)
                (and_from (get_or (row_of rows e) d false) (get_or (row_of rows d) e false)
                (pre.along e f d p.0 fd) (pre.along d f e df p.1));
          },
          p.1,
          p.0,
        )

  -- two first places of one class are one
  pub first_same : (a b : ℕ) → IsFirstPlace rows a → IsFirstPlace rows b → Pulls rows a b
      → Pulls rows b a → a ≡ b
  first_same a b fa fb ab ba = ⊎_elim (λ l. absurd (fb.least a l ba ab))
      (λ ge. ⊎_elim (λ l. absurd (fa.least b l ab ba)) (λ le. omega arith) (cases_lt b a))
      (cases_lt a b)

-- ---- the needs of a block

-- a list that rises stays so with a greater number at its end
increasing_push : (xs : List ℕ) (y : ℕ) → IsStrictlyIncreasing xs
    → ((k : ℕ) → k < length xs → get_or xs k 0 < y) → IsStrictlyIncreasing (xs ++ y ∷ [])
increasing_push xs y h below k l = at (cases_lt (k + 1) (length xs)) where
  count : length (xs ++ y ∷ []) ≡ length xs + 1
  count = length_push xs y

  at : (k + 1 < length xs) ⊎ (length xs ≤ k + 1)
      → get_or (xs ++ y ∷ []) k 0 < get_or (xs ++ y ∷ []) (k + 1) 0
  at (inl lt) = rw (
    get_or_append_left xs (y ∷ []) 0 k (omega arith),
    get_or_append_left xs (y ∷ []) 0 (k + 1) lt,
  ) (h k lt)
  at (inr ge) =
      let here : k < length xs = omega (arith, count) in
      let last : get_or (xs ++ y ∷ []) (k + 1) 0 ≡ y = get_or_push xs y 0 (k + 1)
      (omega (arith, count)) in
      rw (get_or_append_left xs (y ∷ []) 0 k here, last) (below k here)

module _ (rows : List (List Bool)) (firsts : List ℕ) (i : ℕ) where
  f : ℕ → ℕ
  f k = get_or firsts k 0

  -- the block k is needed by the block i
  pub needed : ℕ → Bool
  needed k = not (nat_eq k i) && get_or (row_of rows (get_or firsts i 0)) (get_or firsts k 0) false

  pub needs_in : (k : ℕ) → needed k ≡ true
      → needs_upto rows firsts i (suc k) ≡ needs_upto rows firsts i k ++ suc k ∷ []
  unfolding needed
  needs_in k e = ap (λ b. if b then needs_upto rows firsts i k ++ suc k ∷ [] else needs_upto rows
      firsts i k) e

  pub needs_out : (k : ℕ) → needed k ≡ false
      → needs_upto rows firsts i (suc k) ≡ needs_upto rows firsts i k
  unfolding needed
  needs_out k e = ap (λ b. if b then needs_upto rows firsts i k ++ suc k ∷ [] else needs_upto rows
      firsts i k) e

  -- what being needed means
  pub needed_is : (k : ℕ) → (needed k ≡ true)
      ↔ ((k ≢ i) × Pulls rows (get_or firsts i 0) (get_or firsts k 0))
  unfolding needed
  needed_is k = (
    (λ e. let p = and_parts (not (nat_eq k i))
        (get_or (row_of rows (get_or firsts i 0)) (get_or firsts k 0) false)
        e in ((λ same. both_ways (not (nat_eq k i)) (ap not (eq-eqb k i same)) p.0), p.1)),
    (λ (ne, h). and_from (not (nat_eq k i))
        (get_or (row_of rows (get_or firsts i 0)) (get_or firsts k 0) false)
        (ap not (ne_eqb k i ne)) h),
  )

  Needed : ℕ → ℕ → Type 0
  Needed k j = (m : ℕ) × (m < k) × (j ≡ suc m) × (needed m ≡ true)

  needs_to : (k j : ℕ) → Contains (needs_upto rows firsts i k) j → Needed k j
  unfolding Needed
  needs_to zero j (m, l, e) = absurd (omega arith)
  needs_to (suc k) j h = step (needs_to k j) (cases_Bool (needed k)) where
    wider : Needed k j → Needed (suc k) j
    wider (m, l, e, t) = (m, omega arith, e, t)

    step : (Contains (needs_upto rows firsts i k) j → Needed k j) → (needed k ≡ true)
        ⊎ (needed k ≡ false) → Needed (suc k) j
    step before (inr no') = wider (before (rw (needs_out k no') at h))
    step before (inl does) = ⊎_elim (λ old. wider (before old))
        (λ is. (k, omega arith, sym is, does))
        (Contains-push_cases (needs_upto rows firsts i k) (suc k) j (rw (needs_in k does) at h))

  needs_from : (k j : ℕ) → Needed k j → Contains (needs_upto rows firsts i k) j
  unfolding Needed
  needs_from zero j (m, l, e, t) = absurd (omega arith)
  needs_from (suc k) j (m, l, e, t) =
      at (needs_from k j) (cases_Bool (needed k)) (cases_lt m k) where
        at : (Needed k j → Contains (needs_upto rows firsts i k) j) → (needed k ≡ true)
            ⊎ (needed k ≡ false) → (m < k) ⊎ (k ≤ m) → Contains (needs_upto rows firsts i (suc k)) j
        at before (inl does) (inl lt) =
            rw (needs_in k does) (Contains-append_left (needs_upto rows firsts i k) (suc k ∷ []) j
            (before (m, lt, e, t)))
        at before (inl does) (inr ge) = let is : j ≡ suc k = omega arith in rw (needs_in k does, is)
            (Contains-push (needs_upto rows firsts i k) (suc k))
        at before (inr no') (inl lt) = rw (needs_out k no') (before (m, lt, e, t))
        at before (inr no') (inr ge) =
            let is : m ≡ k = omega arith in absurd (both_ways (needed k) no' (rw (← is) t))

  -- the needs rise
  pub needs_ascending : (k : ℕ) → IsStrictlyIncreasing (needs_upto rows firsts i k)
  unfolding Needed
  needs_ascending zero = λ j l. absurd (omega arith)
  needs_ascending (suc k) = at (needs_ascending k) (cases_Bool (needed k)) where
    below : (j : ℕ) → j < length (needs_upto rows firsts i k)
        → get_or (needs_upto rows firsts i k) j 0 < suc k
    below j l = let (m, lm, e, t) = needs_to k (get_or (needs_upto rows firsts i k) j 0)
        (Contains-get_or (needs_upto rows firsts i k) j 0 l) in omega (arith, e, lm)

    at : IsStrictlyIncreasing (needs_upto rows firsts i k) → (needed k ≡ true) ⊎ (needed k ≡ false)
        → IsStrictlyIncreasing (needs_upto rows firsts i (suc k))
    at before (inl does) = rw (needs_in k does)
        (increasing_push (needs_upto rows firsts i k) (suc k) before below)
    at before (inr no') = rw (needs_out k no') before

  -- a number is among them where it is that of another block whose first place comes along
  pub needs_exact : (k j : ℕ) → Contains (needs_upto rows firsts i k) j
      ↔ ((m : ℕ) × (m < k) × (j ≡ suc m) × (m ≢ i)
      × Pulls rows (get_or firsts i 0) (get_or firsts m 0))
  unfolding Needed
  needs_exact k j = (
    (λ h. let (m, l, e, t) = needs_to k j h in let p = (needed_is m).0 t in (m, l, e, p.0, p.1)),
    (λ (m, l, e, ne, p). needs_from k j (m, l, e, (needed_is m).1 (ne, p))),
  )
