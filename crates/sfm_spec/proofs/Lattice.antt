-- The minimisers of a sum of submodular functions form a lattice: there is a least one and a
-- greatest one, for any shift.
use Rattle.std.proofs.Common.{◌≡◌, ◌⊎◌, ℕ, zero, suc, ◌<◌, Bool, true, false, ◌&&◌, ◌||◌, List, [], ◌∷◌, length, get_or, ℤ, pos, neg_ℤ, ◌+ℤ◌, ◌≤ℤ◌, Option, Some, None, IsSome, unwrap_or, refl, sym, ap, ◌∙◌, arith, inl, inr, ⊎_elim}
use Rattle.std.proofs.lemmas.Bool.{and_from, and_parts, both_ways}
use Rattle.std.proofs.lemmas.Int.{ints, by_lt_z}
use Rattle.std.proofs.lemmas.List.{length-map, length-replicate}
use Rattle.std.specs.Int.Signed.{le_z}
use Rattle.sfm_spec.specs.Sets.{Has, part, size, union, intersection, empty_set, whole_set, IsWithin}
use Rattle.sfm_spec.specs.Families.{Meaning, AreTerms, IsAllowed, IsMinimiser, IsLeast, IsGreatest, value_at, sum_at, shifted_at}
use Rattle.sfm_spec.proofs.Sets.{get_or-union, get_or-intersection, in_first, union_left, union_right, Has-whole}
use Rattle.sfm_spec.proofs.Sums.{length-union, length-intersection, sum_over-modular_any}
use Rattle.sfm_spec.proofs.Scaled.{times-add, times-mono}
use Rattle.sfm_spec.proofs.Tight.{some_of, is_some_of}
use Rattle.sfm_spec.proofs.Sizes.{size_grows, within_by_intersection}

-- ---- the part of a union, of an intersection, of the empty and of the whole set

-- the part of a union is the union of the parts
pub part-union : (places : List ℕ) (s t : List Bool) → length s ≡ length t
    → part places (union s t) ≡ union (part places s) (part places t)
part-union [] s t h = refl
part-union (e ∷ places) s t h = ap (λ b. b ∷ part places (union s t)) (get_or-union s t e h)
    ∙ ap (λ r. (get_or s e false || get_or t e false) ∷ r) (part-union places s t h)

-- the part of an intersection is the intersection of the parts
pub part-intersection : (places : List ℕ) (s t : List Bool) → length s ≡ length t
    → part places (intersection s t) ≡ intersection (part places s) (part places t)
part-intersection [] s t h = refl
part-intersection (e ∷ places) s t h =
    ap (λ b. b ∷ part places (intersection s t)) (get_or-intersection s t e h)
    ∙ ap (λ r. (get_or s e false && get_or t e false) ∷ r) (part-intersection places s t h)

get_or-empty : (n e : ℕ) → get_or (empty_set n) e false ≡ false
get_or-empty zero e = refl
get_or-empty (suc n) zero = refl
get_or-empty (suc n) (suc e) = get_or-empty n e

-- no place is in the empty set
pub none_in_empty : (n e : ℕ) → Has (empty_set n) e → ⊥
none_in_empty n e h = both_ways (get_or (empty_set n) e false) (get_or-empty n e) h

-- the part of the empty set is empty
pub part-empty : (n : ℕ) (places : List ℕ) → part places (empty_set n) ≡ empty_set (length places)
part-empty n [] = refl
part-empty n (e ∷ places) = ap (λ b. b ∷ part places (empty_set n)) (get_or-empty n e)
    ∙ ap (λ r. false ∷ r) (part-empty n places)

-- the part of the whole set is whole
pub part-whole : (n : ℕ) (places : List ℕ) → ((j : ℕ) → j < length places → get_or places j 0 < n)
    → part places (whole_set n) ≡ whole_set (length places)
part-whole n [] below = refl
part-whole n (e ∷ places) below =
    ap (λ b. b ∷ part places (whole_set n)) (Has-whole n e (below 0 (omega arith)))
    ∙ ap (λ r. true ∷ r) (part-whole n places (λ j l. below (suc j) (omega arith)))

-- the empty and the whole set are allowed
pub empty_allowed : (n : ℕ) (terms : List Meaning) → AreTerms n terms
    → IsAllowed terms (empty_set n)
empty_allowed n [] fit = tt
empty_allowed n (m ∷ terms) fit =
    (rw (part-empty n m.places, value_at) fit.0.family.empty, empty_allowed n terms fit.1)

-- the whole set is allowed
pub whole_allowed : (n : ℕ) (terms : List Meaning) → AreTerms n terms
    → IsAllowed terms (whole_set n)
whole_allowed n [] fit = tt
whole_allowed n (m ∷ terms) fit = (
  rw (part-whole n m.places fit.0.placed.below, value_at) fit.0.family.whole,
  whole_allowed n terms fit.1,
)

-- ---- the sum is submodular

-- the value that an option holds
pub value_is : (o : Option ℤ) (a : ℤ) → o ≡ Some a → unwrap_or o (pos 0) ≡ a
value_is None a e = cc
value_is (Some b) a e = cc

-- unions and intersections of allowed sets are allowed, and the sum is submodular
pub sum-submodular : (n : ℕ) (terms : List Meaning) (s t : List Bool) → AreTerms n terms
    → length s ≡ length t → IsAllowed terms s → IsAllowed terms t
    → IsAllowed terms (union s t) × IsAllowed terms (intersection s t)
    × ((sum_at terms (union s t) +ℤ sum_at terms (intersection s t))
    ≤ℤ (sum_at terms s +ℤ sum_at terms t))
sum-submodular n [] s t fit same as' at' = (tt, tt, omega (arith, ints))
sum-submodular n (m ∷ terms) s t fit same as' at' =
    let r = sum-submodular n terms s t fit.1 same as'.1 at'.1 in
    let f = fit.0 in
    let ps = part m.places s in
    let pt = part m.places t in
    let ls : length ps ≡ length m.places = length-map m.places (λ e. get_or s e false) in
    let lt : length pt ≡ length m.places = length-map m.places (λ e. get_or t e false) in
    let (a, ea) = some_of (m.value ps) as'.0 in
    let (b, eb) = some_of (m.value pt) at'.0 in
    let (c, ec) = some_of (m.value (union ps pt)) (f.family.unions ps pt ls lt as'.0 at'.0) in
    let (d, ed) = some_of (m.value (intersection ps pt))
    (f.family.intersections ps pt ls lt as'.0 at'.0) in
    let less = f.submodular.submodular ps pt a b c d ls lt ea eb ec ed in
    let eu : value_at m (union s t) ≡ Some c = ap m.value (part-union m.places s t same) ∙ ec in
    let ei : value_at m (intersection s t) ≡ Some d = ap m.value
    (part-intersection m.places s t same) ∙ ed in
    let va = value_is (value_at m s) a ea in
    let vb = value_is (value_at m t) b eb in
    let vc = value_is (value_at m (union s t)) c eu in
    let vd = value_is (value_at m (intersection s t)) d ei in (
      (is_some_of _ c eu, r.0),
      (is_some_of _ d ei, r.1),
      omega (arith, ints, less, va, vb, vc, vd, r.2),
    )

-- q times the sum, less a shift, is submodular too
pub shifted-submodular : (n : ℕ) (terms : List Meaning) (q : ℤ) (shift : List ℤ) (s t : List Bool)
    → pos 0 ≤ℤ q → AreTerms n terms → length s ≡ length t → IsAllowed terms s → IsAllowed terms t
    → IsAllowed terms (union s t) × IsAllowed terms (intersection s t)
    × ((shifted_at terms q shift (union s t) +ℤ shifted_at terms q shift (intersection s t))
    ≤ℤ (shifted_at terms q shift s +ℤ shifted_at terms q shift t))
shifted-submodular n terms q shift s t low fit same as' at' =
    let (au, ai, less) = sum-submodular n terms s t fit same as' at' in
    let scaled = times-mono q (sum_at terms (union s t) +ℤ sum_at terms (intersection s t))
    (sum_at terms s +ℤ sum_at terms t) low less in
    let left = times-add q (sum_at terms (union s t)) (sum_at terms (intersection s t)) in
    let right = times-add q (sum_at terms s) (sum_at terms t) in
    let modular = sum_over-modular_any s t shift same in
    (au, ai, omega (arith, ints, scaled, left, right, modular))

-- ---- a least value among all allowed sets

-- a set of n places that has the test, with the least value of h among these
abbrev pub LeastOf : ℕ → (List Bool → Bool) → (List Bool → ℤ) → Type 0
LeastOf n p h = (s : List Bool) × (length s ≡ n) × (p s ≡ true)
    × ((t : List Bool) → length t ≡ n → p t ≡ true → h s ≤ℤ h t)

-- no set of n places has the test
abbrev pub NoneOf : ℕ → (List Bool → Bool) → Type 0
NoneOf n p = (s : List Bool) → length s ≡ n → p s ≡ false

-- no set of n places has the test, or one of least value has it
pub least_set : (n : ℕ) (p : List Bool → Bool) (h : List Bool → ℤ) → NoneOf n p ⊎ LeastOf n p h
least_set zero p h = at (p []) refl where
  at : (b : Bool) → p [] ≡ b → ((s : List Bool) → length s ≡ zero → p s ≡ false) ⊎ LeastOf zero p h
  at true e = inr ([], refl, e, only) where
    only : (t : List Bool) → length t ≡ zero → p t ≡ true → h [] ≤ℤ h t
    only [] l g = omega (arith, ints)
    only (b ∷ t) l g = absurd (omega arith)
  at false e = inl none where
    none : (s : List Bool) → length s ≡ zero → p s ≡ false
    none [] l = e
    none (b ∷ s) l = absurd (omega arith)
least_set (suc n) p h = both (least_set n (λ s. p (true ∷ s)) (λ s. h (true ∷ s)))
    (least_set n (λ s. p (false ∷ s)) (λ s. h (false ∷ s))) where
      -- the least of the sets that begin with b, and at most as great as all those with the other
      -- beginning
      wins : (s : List Bool) → length s ≡ suc n → p s ≡ true
          → ((t : List Bool) → length t ≡ n → p (true ∷ t) ≡ true → h s ≤ℤ h (true ∷ t))
          → ((t : List Bool) → length t ≡ n → p (false ∷ t) ≡ true → h s ≤ℤ h (false ∷ t))
          → LeastOf (suc n) p h
      wins s l e f g = (s, l, e, least) where
        least : (t : List Bool) → length t ≡ suc n → p t ≡ true → h s ≤ℤ h t
        least [] k d = absurd (omega arith)
        least (true ∷ t) k d = f t (omega arith) d
        least (false ∷ t) k d = g t (omega arith) d

      both : NoneOf n (λ s. p (true ∷ s)) ⊎ LeastOf n (λ s. p (true ∷ s)) (λ s. h (true ∷ s))
          → NoneOf n (λ s. p (false ∷ s)) ⊎ LeastOf n (λ s. p (false ∷ s)) (λ s. h (false ∷ s))
          → NoneOf (suc n) p ⊎ LeastOf (suc n) p h
      both (inl f) (inl g) = inl none where
        none : (s : List Bool) → length s ≡ suc n → p s ≡ false
        none [] l = absurd (omega arith)
        none (true ∷ s) l = f s (omega arith)
        none (false ∷ s) l = g s (omega arith)
      both (inr (s, l, e, best)) (inl g) =
          inr (wins (true ∷ s) (omega arith) e best
          (λ t k d. absurd (both_ways (p (false ∷ t)) (g t k) d)))
      both (inl f) (inr (s, l, e, best)) =
          inr (wins (false ∷ s) (omega arith) e
          (λ t k d. absurd (both_ways (p (true ∷ t)) (f t k) d))
          best)
      both (inr (s, l, e, best)) (inr (r, m, d, best')) = by_lt_z (h (false ∷ r)) (h (true ∷ s))
          (λ lt. inr (wins (false ∷ r) (omega arith) d
          (λ t k z. let b = best t k z in omega (arith, ints, b, lt)) best'))
          (λ le. inr (wins (true ∷ s) (omega arith) e best
          (λ t k z. let b = best' t k z in omega (arith, ints, b, le))))

-- ---- allowed sets by a test

-- whether there is a value
pub is_some_test : Option ℤ → Bool
is_some_test None = false
is_some_test (Some a) = true

-- the test says yes: there is a value
pub some_by_test : (o : Option ℤ) → is_some_test o ≡ true → IsSome o
unfolding is_some_test
some_by_test None h = cc
some_by_test (Some a) h = refl

-- there is a value: the test says yes
pub test_by_some : (o : Option ℤ) → IsSome o → is_some_test o ≡ true
unfolding is_some_test
test_by_some None h = cc
test_by_some (Some a) h = refl

allowed_test : List Meaning → List Bool → Bool
allowed_test [] s = true
allowed_test (m ∷ terms) s = is_some_test (value_at m s) && allowed_test terms s

allowed_by_test : (terms : List Meaning) (s : List Bool) → allowed_test terms s ≡ true
    → IsAllowed terms s
unfolding allowed_test
allowed_by_test [] s h = tt
allowed_by_test (m ∷ terms) s h =
    let (a, b) = and_parts (is_some_test (value_at m s)) (allowed_test terms s) h in
    (some_by_test (value_at m s) a, allowed_by_test terms s b)

test_by_allowed : (terms : List Meaning) (s : List Bool) → IsAllowed terms s
    → allowed_test terms s ≡ true
unfolding allowed_test
test_by_allowed [] s h = refl
test_by_allowed (m ∷ terms) s h = and_from (is_some_test (value_at m s)) (allowed_test terms s)
    (test_by_some (value_at m s) h.0) (test_by_allowed terms s h.1)

module _ (terms : List Meaning) (n : ℕ) (q : ℤ) (shift : List ℤ) (low : pos 0 ≤ℤ q)
    (fit : AreTerms n terms) where
  -- an allowed set that is worth no more than a minimiser is one
  pub also_minimiser : (s t : List Bool) → IsMinimiser terms n q shift s → length t ≡ n
      → IsAllowed terms t → shifted_at terms q shift t ≤ℤ shifted_at terms q shift s
      → IsMinimiser terms n q shift t
  also_minimiser s t m places allowed le =
      record {
        places = places;
        allowed = allowed;
        least = λ r lr ar. let k = m.least r lr ar in omega (arith, ints, k, le);
      }

  -- minimisers are closed under union and intersection
  pub minimisers_lattice : (s t : List Bool) → IsMinimiser terms n q shift s
      → IsMinimiser terms n q shift t → IsMinimiser terms n q shift (union s t)
      × IsMinimiser terms n q shift (intersection s t)
  minimisers_lattice s t hs ht =
      let same : length s ≡ length t = hs.places ∙ sym ht.places in
      let (au, ai, less) = shifted-submodular n terms q shift s t low fit same hs.allowed
      ht.allowed in
      let lu : length (union s t) ≡ n = length-union s t same ∙ hs.places in
      let li : length (intersection s t) ≡ n = length-intersection s t same ∙ hs.places in
      let u = ht.least (union s t) lu au in
      let i = ht.least (intersection s t) li ai in
      let us = hs.least (union s t) lu au in
      let is = hs.least (intersection s t) li ai in (
        also_minimiser s (union s t) hs lu au (omega (arith, ints, less, i)),
        also_minimiser s (intersection s t) hs li ai (omega (arith, ints, less, u)),
      )

  -- there is a minimiser
  pub minimiser_exists : (s : List Bool) × IsMinimiser terms n q shift s
  minimiser_exists = at (least_set n (allowed_test terms) (shifted_at terms q shift)) where
    at : ((s : List Bool) → length s ≡ n → allowed_test terms s ≡ false)
        ⊎ LeastOf n (allowed_test terms) (shifted_at terms q shift) → (s : List Bool)
        × IsMinimiser terms n q shift s
    at (inl none) = absurd (both_ways (allowed_test terms (empty_set n))
        (none (empty_set n) (length-replicate n false))
        (test_by_allowed terms (empty_set n) (empty_allowed n terms fit)))
    at (inr (s, l, e, best)) = (
      s,
      record {
        places = l;
        allowed = allowed_by_test terms s e;
        least = λ t lt at'. best t lt (test_by_allowed terms t at');
      },
    )

  -- a minimiser by a test, once one is known
  least_test : List Bool → List Bool → Bool
  least_test m s = allowed_test terms s && le_z (shifted_at terms q shift s)
      (shifted_at terms q shift m)

  minimiser_by_test : (m s : List Bool) → IsMinimiser terms n q shift m → length s ≡ n
      → least_test m s ≡ true → IsMinimiser terms n q shift s
  unfolding least_test
  minimiser_by_test m s h l e =
      let (a, b) = and_parts (allowed_test terms s)
      (le_z (shifted_at terms q shift s) (shifted_at terms q shift m)) e in
      also_minimiser m s h l (allowed_by_test terms s a) (omega (arith, ints, b))

  test_by_minimiser : (m s : List Bool) → IsMinimiser terms n q shift m
      → IsMinimiser terms n q shift s → least_test m s ≡ true
  unfolding least_test
  test_by_minimiser m s h k =
      let le = k.least m h.places h.allowed in
      and_from (allowed_test terms s)
      (le_z (shifted_at terms q shift s) (shifted_at terms q shift m))
      (test_by_allowed terms s k.allowed) (grind (arith, ints, le))

  -- of all minimisers one has the least value of any function of sets
  pub best_minimiser : (h : List Bool → ℤ) → (s : List Bool) × IsMinimiser terms n q shift s
      × ((t : List Bool) → IsMinimiser terms n q shift t → h s ≤ℤ h t)
  best_minimiser h = from minimiser_exists where
    from : (s : List Bool) × IsMinimiser terms n q shift s → (s : List Bool)
        × IsMinimiser terms n q shift s
        × ((t : List Bool) → IsMinimiser terms n q shift t → h s ≤ℤ h t)
    from (m, k) = at (least_set n (least_test m) h) where
      at : ((s : List Bool) → length s ≡ n → least_test m s ≡ false) ⊎ LeastOf n (least_test m) h
          → (s : List Bool) × IsMinimiser terms n q shift s
          × ((t : List Bool) → IsMinimiser terms n q shift t → h s ≤ℤ h t)
      at (inl none) = absurd (both_ways (least_test m m) (none m k.places)
          (test_by_minimiser m m k k))
      at (inr (s, l, e, best)) = (
        s,
        minimiser_by_test m s k l e,
        λ t ht. best t ht.places (test_by_minimiser m t k ht),
      )

  -- there is a least minimiser
  pub least_exists : (s : List Bool) × IsLeast terms n q shift s
  least_exists = from (best_minimiser (λ s. pos (size s))) where
    from : (s : List Bool) × IsMinimiser terms n q shift s
        × ((t : List Bool) → IsMinimiser terms n q shift t → pos (size s) ≤ℤ pos (size t))
        → (s : List Bool) × IsLeast terms n q shift s
    from (s, hs, best) = (s, record { minimiser = hs; within = within }) where
      within : (t : List Bool) → IsMinimiser terms n q shift t → IsWithin s t
      within t ht =
          let same : length s ≡ length t = hs.places ∙ sym ht.places in
          let few = best (intersection s t) (minimisers_lattice s t hs ht).1 in
          ⊎_elim (λ e. within_by_intersection s t same e)
          (λ lt. absurd (omega (arith, ints, few, lt)))
          (size_grows (intersection s t) s (length-intersection s t same)
          (λ e. in_first s t e same))

  -- there is a greatest minimiser
  pub greatest_exists : (s : List Bool) × IsGreatest terms n q shift s
  greatest_exists = from (best_minimiser (λ s. neg_ℤ (pos (size s)))) where
    from : (s : List Bool) × IsMinimiser terms n q shift s
        × ((t : List Bool) → IsMinimiser terms n q shift t
        → neg_ℤ (pos (size s)) ≤ℤ neg_ℤ (pos (size t))) → (s : List Bool)
        × IsGreatest terms n q shift s
    from (s, hs, best) = (s, record { minimiser = hs; within = within }) where
      within : (t : List Bool) → IsMinimiser terms n q shift t → IsWithin t s
      within t ht =
          let same : length s ≡ length t = hs.places ∙ sym ht.places in
          let many = best (union s t) (minimisers_lattice s t hs ht).0 in
          ⊎_elim (λ e x has. rw e (union_right s t x same has))
          (λ lt. absurd (omega (arith, ints, many, lt)))
          (size_grows s (union s t) (sym (length-union s t same)) (λ e. union_left s t e same))
