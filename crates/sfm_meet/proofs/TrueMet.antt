-- What bases of both sums prove: where the bases of all sides prove the minimum, the smaller sums
-- are a greatest common vector, and the least minimiser is the least set that attains the least
-- split. And where what the smaller sums add up to is the least split, the bases prove.
use Rattle.std.proofs.Common.{◌≡◌, ℕ, zero, suc, ◌<◌, Bool, List, [], ◌∷◌, ◌++◌, length, map, get_or, ℤ, pos, ◌-ℤ◌, refl, sym, ap, ◌∙◌, arith}
use Rattle.std.specs.Int.{int_min}
use Rattle.std.proofs.lemmas.Int.{ints}
use Rattle.std.proofs.lemmas.List.{ext_get_or}
use Rattle.sfm_spec.specs.Sets.{sum_over, whole_set}
use Rattle.sfm_spec.specs.Families.{Meaning, AreTerms, AreBases, ArePlaced, IsLeast, Prove, base_sum_at, rest_at, deficit, even_shift}
use Rattle.sfm_squares.specs.Level.{IsSumBase}
use Rattle.sfm_squares.proofs.LevelLaw.{sum_is_base}
use Rattle.sfm_flip.specs.Flipped.{negated, flipped_term}
use Rattle.sfm_meet.specs.Common.{IsGreatestCommon, IsLeastSplit}
use Rattle.sfm_meet.specs.Met.{IsProvedMet}
use Rattle.sfm_meet.proofs.Meeting.{AllAllowed, least_split, prove_back, sides_rest}

-- ---- lists of values, and sums of min(z, 0)

-- the first n values of a function
abbrev firsts : ℕ → (ℕ → ℤ) → List ℤ
firsts zero f = []
firsts (suc n) f = f 0 ∷ firsts n (λ e. f (suc e))

length-firsts : (n : ℕ) (f : ℕ → ℤ) → length (firsts n f) ≡ n
length-firsts zero f = refl
length-firsts (suc n) f = ap suc (length-firsts n (λ e. f (suc e)))

get_or-firsts : (n : ℕ) (f : ℕ → ℤ) (e : ℕ) → e < n → get_or (firsts n f) e (pos 0) ≡ f e
get_or-firsts zero f e l = absurd (omega (arith, l))
get_or-firsts (suc n) f zero l = refl
get_or-firsts (suc n) f (suc e) l = get_or-firsts n (λ k. f (suc k)) e (omega (arith, l))

-- functions that agree below n
deficit-below : (n : ℕ) (f g : ℕ → ℤ) → ((e : ℕ) → e < n → f e ≡ g e) → deficit n f ≡ deficit n g
deficit-below zero f g h = refl
deficit-below (suc n) f g h =
    let r = deficit-below n (λ e. f (suc e)) (λ e. g (suc e))
    (λ e l. h (suc e) (omega (arith, l))) in
    let k = ap (λ y. int_min y (pos 0)) (h 0 (omega arith)) in
    omega (arith, ints, r, k)

-- the places of terms
terms_placed : (n : ℕ) (terms : List Meaning) → AreTerms n terms → ArePlaced n terms
terms_placed n [] h = tt
terms_placed n (term ∷ terms) h = (h.0.placed, terms_placed n terms h.1)

-- there is one vector of the smaller numbers
pub smaller_only : (n : ℕ) (f g : ℕ → ℤ) (c d : List ℤ) → length c ≡ n
    → ((e : ℕ) → e < n → get_or c e (pos 0) ≡ int_min (f e) (g e))
    → length d ≡ n → ((e : ℕ) → e < n → get_or d e (pos 0) ≡ int_min (f e) (g e)) → c ≡ d
smaller_only n f g c d sized smaller count same = ext_get_or (pos 0) c d (sized ∙ sym count)
    (λ e l. let le : e < n = rw sized at l in smaller e le ∙ sym (same e le))

-- ---- what bases prove

module _ (left right : List Meaning) (n : ℕ) (fit_left : AreTerms n left)
    (fit_right : AreTerms n right)
    (free_left : AllAllowed left n) (free_right : AllAllowed right n) (x y : List (List ℤ))
    (bx : AreBases (pos 1) left x)
    (by : AreBases (pos 1) right y) (c : List ℤ) (sized : length c ≡ n)
    (smaller : (e : ℕ) → e < n → get_or c e (pos 0) ≡ int_min (base_sum_at left x e)
    (base_sum_at right y e)) where
  xs : List ℤ
  xs = firsts n (base_sum_at left x)

  ys : List ℤ
  ys = firsts n (base_sum_at right y)

  base_x : IsSumBase left n xs
  unfolding xs
  base_x = sum_is_base left n x xs fit_left bx (record {
    places = length-firsts n (base_sum_at left x);
    exact = get_or-firsts n (base_sum_at left x);
  })

  base_y : IsSumBase right n ys
  unfolding ys
  base_y = sum_is_base right n y ys fit_right by (record {
    places = length-firsts n (base_sum_at right y);
    exact = get_or-firsts n (base_sum_at right y);
  })

  smaller_of : (e : ℕ) → e < n → get_or c e (pos 0) ≡ int_min (get_or xs e (pos 0))
      (get_or ys e (pos 0))
  unfolding xs ys
  smaller_of e l =
      rw (get_or-firsts n (base_sum_at left x) e l, get_or-firsts n (base_sum_at right y) e l)
      (smaller e l)

  abbrev sides : List Meaning
  sides = left ++ map flipped_term right

  abbrev rows : List (List ℤ)
  rows = x ++ map negated y

  deficit_is : deficit n (rest_at sides rows (even_shift n (pos 0))) ≡ deficit n
      (λ e. get_or xs e (pos 0) -ℤ get_or ys e (pos 0))
  unfolding xs ys
  deficit_is = deficit-below n (rest_at sides rows (even_shift n (pos 0)))
      (λ e. get_or xs e (pos 0) -ℤ get_or ys e (pos 0)) (λ e l.
      let r = sides_rest (pos 1) n left right x y bx e l in
      let a = get_or-firsts n (base_sum_at left x) e l in
      let b = get_or-firsts n (base_sum_at right y) e l in
      omega (arith, ints, r, a, b))

  -- the least minimiser, where the bases prove
  pub least_met : (t : List Bool) → IsLeast sides n (pos 1) (even_shift n (pos 0)) t
      → Prove sides n (pos 1) (even_shift n (pos 0)) rows
      → IsLeastSplit left right n (sum_over (whole_set n) c) t × IsGreatestCommon left right n c
  least_met t least (s, minimiser, value) =
      let one = least.minimiser.least s minimiser.places minimiser.allowed in
      let two = minimiser.least t least.minimiser.places least.minimiser.allowed in
      let is = deficit_is in
      least_split left right n (terms_placed n right fit_right) free_left free_right xs ys c base_x
      base_y sized
      smaller_of t least (omega (arith, ints, one, two, value, is))

  -- all that is told
  pub proved_met : (v : ℤ) (s t : List Bool)
      → IsLeastSplit left right n (sum_over (whole_set n) c) t
      → IsProvedMet left right n (record {
        value = v;
        members = s;
        common = c;
        left = x;
        right = y;
      })
  proved_met v s t split = record {
    left_bases = bx;
    right_bases = by;
    places = sized;
    smaller = smaller;
    total = (t, split);
  }

  -- where the least split is what the smaller sums add up to, the bases prove
  pub split_proves : (t : List Bool) → IsLeastSplit left right n (sum_over (whole_set n) c) t
      → Prove sides n (pos 1) (even_shift n (pos 0)) rows
  split_proves t split =
      let (minimiser, same) = prove_back left right n (terms_placed n right fit_right) free_left
      free_right xs ys c
      base_x base_y sized smaller_of t split in
      (t, minimiser, same ∙ sym deficit_is)
