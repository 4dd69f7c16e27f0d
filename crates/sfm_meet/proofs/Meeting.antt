-- Bases of one list of terms and negated bases of another, turned round: the smaller sums, and what
-- they prove.
use Rattle.std.proofs.Common.{◌≡◌, ℕ, zero, suc, ◌<◌, Bool, true, false, not, List, [], ◌∷◌, ◌++◌, length, map, get_or, replicate, ℤ, pos, neg_ℤ, ◌+ℤ◌, ◌-ℤ◌, ◌≤ℤ◌, Option, Some, None, IsSome, unwrap_or, nat_eq, if◌then◌else◌, refl, sym, ap, subst, ◌∙◌, arith}
use Rattle.std.specs.Int.{int_min}
use Rattle.std.specs.Option.{option_map}
use Rattle.std.proofs.lemmas.Int.{ints, clamps}
use Rattle.std.proofs.lemmas.List.{get_or-map, get_or-replicate}
use Rattle.sfm_spec.specs.Sets.{IsPlaced, part, sum_over, whole_set, complement}
use Rattle.sfm_spec.specs.Families.{Meaning, ArePlaced, IsAllowed, IsMinimiser, IsLeast, value_at, sum_at, shifted_at, entry_at, base_sum_at, deficit, even_shift, AreTerms, AreBases, IsTerm, rest_at}
use Rattle.sfm_spec.proofs.Extremes.{length-complement}
use Rattle.sfm_flip.specs.Flipped.{negated, flipped_term}
use Rattle.sfm_spec.proofs.Scaled.{family-times, submodular-times}
use Rattle.sfm_spec.proofs.MoveOrder.{bases-count}
use Rattle.sfm_flip.specs.FlipLaws.{sum_over-complement, flipped-family, flipped-submodular, turned-base, length-negated}
use Rattle.sfm_meet.specs.Common.{IsCommon, IsGreatestCommon, IsLeastSplit, split_at}
use Rattle.sfm_squares.specs.Level.{IsSumBase}

-- the rest of a part is the part of the rest
part-complement : (n : ℕ) (places : List ℕ) (s : List Bool)
    → ((j : ℕ) → j < length places → get_or places j 0 < n) → length s ≡ n
    → part places (complement s) ≡ complement (part places s)
part-complement n [] s below same = refl
part-complement n (p ∷ places) s below same =
    let r = part-complement n places s (λ j l. below (suc j) (omega (arith, l))) same in
    let b : p < n = below 0 (omega arith) in
    let o : get_or (complement s) p false ≡ not (get_or s p false) = get_or-map not s p false false
    (omega (arith, b, same)) in
    ap (λ y. y ∷ part places (complement s)) o ∙ ap (λ y. not (get_or s p false) ∷ y) r

part-whole : (n : ℕ) (places : List ℕ) → ((j : ℕ) → j < length places → get_or places j 0 < n)
    → part places (whole_set n) ≡ whole_set (length places)
part-whole n [] below = refl
part-whole n (p ∷ places) below =
    let r = part-whole n places (λ j l. below (suc j) (omega (arith, l))) in
    let b : p < n = below 0 (omega arith) in
    let o : get_or (replicate n true) p false ≡ true = get_or-replicate n p true false b in
    ap (λ y. y ∷ part places (whole_set n)) o ∙ ap (λ y. true ∷ y) r

less_of : (o : Option ℤ) (w : ℤ) → IsSome o
    → unwrap_or (option_map (λ a. a -ℤ w) o) (pos 0) ≡ (unwrap_or o (pos 0) -ℤ w)
less_of None w h = cc
less_of (Some a) w h = refl

still_some : (o : Option ℤ) (w : ℤ) → IsSome o → IsSome (option_map (λ a. a -ℤ w) o)
still_some None w h = cc
still_some (Some a) w h = refl

-- one term turned round
flipped-value : (n : ℕ) (term : Meaning) (s : List Bool) → IsPlaced n term.places → length s ≡ n
    → IsSome (value_at term (complement s))
    → IsSome (value_at (flipped_term term) s)
    × (unwrap_or (value_at (flipped_term term) s)
    (pos 0) ≡ (unwrap_or (value_at term (complement s)) (pos 0) -ℤ unwrap_or
    (value_at term (whole_set n)) (pos 0)))
flipped-value n term s placed same allowed =
    let c = part-complement n term.places s placed.below same in
    let w = part-whole n term.places placed.below in
    let f = term.value in
    let v = unwrap_or (f (whole_set (length term.places))) (pos 0) in
    let h : IsSome (f (complement (part term.places s))) = subst (λ r. IsSome (f r)) c allowed in
    let less = less_of (f (complement (part term.places s))) v h in
    let e1 = ap (λ r. unwrap_or (f r) (pos 0)) c in
    let e2 = ap (λ r. unwrap_or (f r) (pos 0)) w in
    (still_some (f (complement (part term.places s))) v h, omega (arith, ints, less, e1, e2))

-- C3
sum_at-flipped : (n : ℕ) (terms : List Meaning) (s : List Bool) → ArePlaced n terms → length s ≡ n
    → IsAllowed terms (complement s)
    → IsAllowed (map flipped_term terms) s
    × (sum_at (map flipped_term terms)
    s ≡ (sum_at terms (complement s) -ℤ sum_at terms (whole_set n)))
sum_at-flipped n [] s placed same allowed = (tt, refl)
sum_at-flipped n (term ∷ terms) s placed same allowed =
    let one = flipped-value n term s placed.0 same allowed.0 in
    let r = sum_at-flipped n terms s placed.1 same allowed.1 in
    let o = one.1 in
    let t = r.1 in
    ((one.0, r.0), omega (arith, ints, o, t))

sum_at-append : (ks js : List Meaning) (s : List Bool)
    → sum_at (ks ++ js) s ≡ (sum_at ks s +ℤ sum_at js s)
sum_at-append [] js s = omega (arith, ints)
sum_at-append (k ∷ ks) js s = let r = sum_at-append ks js s in omega (arith, ints, r)

allowed-append : (ks js : List Meaning) (s : List Bool) → IsAllowed ks s → IsAllowed js s
    → IsAllowed (ks ++ js) s
allowed-append [] js s h k = k
allowed-append (t ∷ ks) js s h k = (h.0, allowed-append ks js s h.1 k)

-- C2
negated_if : (b : Bool) (a : ℤ) → (if b then neg_ℤ a else pos 0) ≡ neg_ℤ (if b then a else pos 0)
negated_if true a = refl
negated_if false a = refl

entry-negated : (places : List ℕ) (x : List ℤ) (e : ℕ)
    → entry_at places (negated x) e ≡ neg_ℤ (entry_at places x e)
entry-negated [] x e = refl
entry-negated (p ∷ places) [] e = refl
entry-negated (p ∷ places) (a ∷ x) e =
    let r = entry-negated places x e in
    let o = negated_if (nat_eq p e) a in
    omega (arith, ints, r, o)

base_sum-negated : (terms : List Meaning) (rows : List (List ℤ)) (e : ℕ)
    → base_sum_at (map flipped_term terms) (map negated rows) e ≡ neg_ℤ (base_sum_at terms rows e)
base_sum-negated [] rows e = refl
base_sum-negated (t ∷ terms) [] e = refl
base_sum-negated (t ∷ terms) (x ∷ rows) e =
    let r = base_sum-negated terms rows e in
    let o = entry-negated t.places x e in
    omega (arith, ints, r, o)

base_sum-append : (ks js : List Meaning) (x y : List (List ℤ)) (e : ℕ) → length x ≡ length ks
    → base_sum_at (ks ++ js) (x ++ y) e ≡ (base_sum_at ks x e +ℤ base_sum_at js y e)
base_sum-append [] js [] y e h = omega (arith, ints)
base_sum-append [] js (a ∷ x) y e h = absurd (omega arith)
base_sum-append (k ∷ ks) js [] y e h = absurd (omega arith)
base_sum-append (k ∷ ks) js (a ∷ x) y e h =
    let r = base_sum-append ks js x y e (omega arith) in omega (arith, ints, r)

-- ---- the smaller sums

-- all of x, by its entries
all_of : (x : List ℤ) (n : ℕ) (f g : ℕ → ℤ) → length x ≡ n
    → ((e : ℕ) → e < n → get_or x e (pos 0) ≡ int_min (f e) (g e)) → (y : List ℤ) → length y ≡ n
    → ((e : ℕ) → e < n → get_or y e (pos 0) ≡ g e)
    → sum_over (whole_set n) x ≡ (deficit n (λ e. f e -ℤ g e) +ℤ sum_over (whole_set n) y)
all_of [] zero f g h is [] k js = refl
all_of [] zero f g h is (b ∷ y) k js = absurd (omega arith)
all_of [] (suc n) f g h is y k js = absurd (omega arith)
all_of (a ∷ x) zero f g h is y k js = absurd (omega arith)
all_of (a ∷ x) (suc n) f g h is [] k js = absurd (omega arith)
all_of (a ∷ x) (suc n) f g h is (b ∷ y) k js =
    let r = all_of x n (λ e. f (suc e)) (λ e. g (suc e)) (omega arith)
    (λ e l. is (suc e) (omega (arith, l))) y (omega arith)
    (λ e l. js (suc e) (omega (arith, l))) in
    let i : a ≡ int_min (f 0) (g 0) = is 0 (omega arith) in
    let j : b ≡ g 0 = js 0 (omega arith) in
    omega (arith, ints, clamps, r, i, j)

-- what has smaller entries has smaller sums
sum_over-mono : (s : List Bool) (x y : List ℤ) → length x ≡ length y
    → ((e : ℕ) → e < length x → get_or x e (pos 0) ≤ℤ get_or y e (pos 0))
    → sum_over s x ≤ℤ sum_over s y
sum_over-mono [] x y h le = omega (arith, ints)
sum_over-mono (b ∷ s) [] [] h le = omega (arith, ints)
sum_over-mono (b ∷ s) [] (c ∷ y) h le = absurd (omega arith)
sum_over-mono (b ∷ s) (a ∷ x) [] h le = absurd (omega arith)
sum_over-mono (true ∷ s) (a ∷ x) (c ∷ y) h le =
    let r = sum_over-mono s x y (omega arith) (λ e l. le (suc e) (omega (arith, l))) in
    let o : a ≤ℤ c = le 0 (omega arith) in
    omega (arith, ints, r, o)
sum_over-mono (false ∷ s) (a ∷ x) (c ∷ y) h le =
    let r = sum_over-mono s x y (omega arith) (λ e l. le (suc e) (omega (arith, l))) in
    omega (arith, ints, r)

sum_over-zero : (s : List Bool) (n : ℕ) → sum_over s (replicate n (pos 0)) ≡ pos 0
sum_over-zero [] n = refl
sum_over-zero (b ∷ s) zero = refl
sum_over-zero (true ∷ s) (suc n) = let r = sum_over-zero s n in omega (arith, ints, r)
sum_over-zero (false ∷ s) (suc n) = let r = sum_over-zero s n in omega (arith, ints, r)

-- every part is allowed
abbrev pub AllAllowed : List Meaning → ℕ → Type 0
AllAllowed terms n = (s : List Bool) → length s ≡ n → IsAllowed terms s

module _ (left right : List Meaning) (n : ℕ) (placed : ArePlaced n right)
    (free_left : AllAllowed left n) (free_right : AllAllowed right n)
    (x y c : List ℤ) (bx : IsSumBase left n x) (by : IsSumBase right n y) (sized : length c ≡ n)
    (smaller : (e : ℕ) → e < n → get_or c e (pos 0) ≡ int_min (get_or x e (pos 0))
    (get_or y e (pos 0))) where
  -- the smaller sums are a common vector
  common : IsCommon left right n c
  common = record {
    places = sized;
    under_left = λ s h.
        let m = sum_over-mono s c x (sized ∙ sym bx.places)
        (λ e l. let i = smaller e (rw sized at l) in omega (arith, ints, clamps, i)) in
        let w = bx.within s h (free_left s h) in
        omega (arith, ints, m, w);
    under_right = λ s h.
        let m = sum_over-mono s c y (sized ∙ sym by.places)
        (λ e l. let i = smaller e (rw sized at l) in omega (arith, ints, clamps, i)) in
        let w = by.within s h (free_right s h) in
        omega (arith, ints, m, w);
  }

  -- no common vector has more in all than one sum on a set and the other on its rest
  under_split : (z : List ℤ) → IsCommon left right n z → (s : List Bool) → length s ≡ n
      → sum_over (whole_set n) z ≤ℤ split_at left right s
  under_split z h s same =
      let p = sum_over-complement s z (same ∙ sym h.places) in
      let q = rw h.places at p in
      let l = h.under_left s same in
      let r = h.under_right (complement s) (length-complement s ∙ same) in
      omega (arith, ints, q, l, r)

  -- where all of it is some split, it is a greatest one, and the split the least
  pub greatest : (t : List Bool) → length t ≡ n → sum_over (whole_set n) c ≡ split_at left right t
      → IsGreatestCommon left right n c
  greatest t same e = record {
    common = common;
    greatest = λ z h. let u = under_split z h t same in omega (arith, ints, u, e);
  }

  -- the sum of all sides at a set
  abbrev sides : List Meaning
  sides = left ++ map flipped_term right

  sides_at : (s : List Bool) → length s ≡ n → IsAllowed sides s
      × (shifted_at sides (pos 1) (even_shift n (pos 0))
      s ≡ (split_at left right s -ℤ sum_at right (whole_set n)))
  sides_at s same =
      let (allowed, e) = sum_at-flipped n right s placed same
      (free_right (complement s) (length-complement s ∙ same)) in
      let a = sum_at-append left (map flipped_term right) s in
      let z = sum_over-zero s n in (
        allowed-append left (map flipped_term right) s (free_left s same) allowed,
        omega (arith, ints, e, a, z),
      )

  -- C6: the least minimiser of all sides, and what proves it
  pub least_split : (t : List Bool) → IsLeast sides n (pos 1) (even_shift n (pos 0)) t
      → shifted_at sides (pos 1) (even_shift n (pos 0)) t ≡ deficit n
      (λ e. get_or x e (pos 0) -ℤ get_or y e (pos 0))
      → IsLeastSplit left right n (sum_over (whole_set n) c) t × IsGreatestCommon left right n c
  least_split t h same = (split, greatest t h.minimiser.places (sym value)) where
    value : split_at left right t ≡ sum_over (whole_set n) c
    value =
        let (_, e) = sides_at t h.minimiser.places in
        let all = all_of c n (λ e. get_or x e (pos 0)) (λ e. get_or y e (pos 0)) sized smaller y
        by.places (λ e l. refl) in
        let t2 = by.total in
        omega (arith, ints, e, all, same, t2)

    split : IsLeastSplit left right n (sum_over (whole_set n) c) t
    split = record {
      places = h.minimiser.places;
      value = value;
      least = λ s k. under_split c common s k;
      within = λ s k is. h.within s (record {
        places = k;
        allowed = (sides_at s k).0;
        least = λ r kr ar.
            let a = (sides_at s k).1 in
            let b = (sides_at r kr).1 in
            let u = under_split c common r kr in
            omega (arith, ints, a, b, u, is);
      });
    }

  -- and back: where all of the smaller sums is the least split, the set that has it is a minimiser,
  -- of the deficit
  pub prove_back : (t : List Bool) → IsLeastSplit left right n (sum_over (whole_set n) c) t
      → IsMinimiser sides n (pos 1) (even_shift n (pos 0)) t
      × (shifted_at sides (pos 1) (even_shift n (pos 0)) t ≡ deficit n
      (λ e. get_or x e (pos 0) -ℤ get_or y e (pos 0)))
  prove_back t h = (minimiser, same) where
    same : shifted_at sides (pos 1) (even_shift n (pos 0)) t ≡ deficit n
        (λ e. get_or x e (pos 0) -ℤ get_or y e (pos 0))
    same =
        let e = (sides_at t h.places).1 in
        let all = all_of c n (λ e. get_or x e (pos 0)) (λ e. get_or y e (pos 0)) sized smaller y
        by.places (λ e l. refl) in
        let t2 = by.total in
        let v = h.value in
        omega (arith, ints, e, all, t2, v)

    minimiser : IsMinimiser sides n (pos 1) (even_shift n (pos 0)) t
    minimiser = record {
      places = h.places;
      allowed = (sides_at t h.places).0;
      least = λ s k as'.
          let a = (sides_at t h.places).1 in
          let b = (sides_at s k).1 in
          let l = h.least s k in
          let v = h.value in
          omega (arith, ints, a, b, l, v);
    }

-- ---- C1

terms-append : (n : ℕ) (ks js : List Meaning) → AreTerms n ks → AreTerms n js
    → AreTerms n (ks ++ js)
terms-append n [] js h k = k
terms-append n (t ∷ ks) js h k = (h.0, terms-append n ks js h.1 k)

bases-append : (q : ℤ) (ks js : List Meaning) (x y : List (List ℤ)) → AreBases q ks x
    → AreBases q js y → AreBases q (ks ++ js) (x ++ y)
bases-append q [] js [] y h k = k
bases-append q [] js (a ∷ x) y h k = absurd h
bases-append q (t ∷ ks) js [] y h k = absurd h
bases-append q (t ∷ ks) js (a ∷ x) y h k = (h.0, h.1, bases-append q ks js x y h.2 k)

terms-flipped : (n : ℕ) (terms : List Meaning) → AreTerms n terms
    → AreTerms n (map flipped_term terms)
terms-flipped n [] h = tt
terms-flipped n (term ∷ terms) h =
    let one : IsTerm n (flipped_term term) = record {
      placed = h.0.placed;
      family = flipped-family (length term.places) term.value h.0.family h.0.submodular;
      submodular = flipped-submodular (length term.places) term.value h.0.family h.0.submodular;
    } in
    (one, terms-flipped n terms h.1)

bases-flipped : (q : ℤ) (low : pos 1 ≤ℤ q) (n : ℕ) (terms : List Meaning) (rows : List (List ℤ))
    → AreTerms n terms → AreBases q terms rows
    → AreBases q (map flipped_term terms) (map negated rows)
bases-flipped q low n [] [] h b = tt
bases-flipped q low n [] (x ∷ rows) h b = absurd b
bases-flipped q low n (term ∷ terms) [] h b = absurd b
bases-flipped q low n (term ∷ terms) (x ∷ rows) h b =
    let k = length term.places in
    let f = term.value in
    let base = turned-base k f h.0.family h.0.submodular q (family-times k q f h.0.family)
    (submodular-times k q f (omega (arith, ints, low)) h.0.submodular) x b.0 b.1 in
    (length-negated x ∙ b.0, base, bases-flipped q low n terms rows h.1 b.2)

-- the terms of both sides are terms, and their bases bases
pub sides_are_terms : (n : ℕ) (left right : List Meaning) → AreTerms n left → AreTerms n right
    → AreTerms n (left ++ map flipped_term right)
sides_are_terms n left right h k =
    terms-append n left (map flipped_term right) h (terms-flipped n right k)

pub sides_bases : (q : ℤ) → pos 1 ≤ℤ q → (n : ℕ) (left right : List Meaning) (x y : List (List ℤ))
    → AreTerms n right → AreBases q left x → AreBases q right y
    → AreBases q (left ++ map flipped_term right) (x ++ map negated y)
sides_bases q low n left right x y k h b =
    bases-append q left (map flipped_term right) x (map negated y) h
    (bases-flipped q low n right y k b)

-- C2 in all: the rest of the sides at no shift
pub sides_rest : (q : ℤ) (n : ℕ) (left right : List Meaning) (x y : List (List ℤ))
    → AreBases q left x → (e : ℕ) → e < n
    → rest_at (left ++ map flipped_term right) (x ++ map negated y) (even_shift n (pos 0))
    e ≡ (base_sum_at left x e -ℤ base_sum_at right y e)
sides_rest q n left right x y h e l =
    let a = base_sum-append left (map flipped_term right) x (map negated y) e
    (bases-count q left x h) in
    let b = base_sum-negated right y e in
    let r : get_or (replicate n (pos 0)) e (pos 0) ≡ pos 0 = get_or-replicate n e (pos 0) (pos 0)
    l in
    omega (arith, ints, a, b, r)
