-- The search for the next slope: from a set that is the greatest minimiser at the slope before, or
-- empty, it takes the slope to a larger set, asks for the least minimiser there, and goes on with
-- that as the larger set, until it is the first set itself. Each turn makes the larger set smaller,
-- so the search ends; and what it ends at is the next slope with two minimisers.
use Rattle.std.proofs.Common.{◌≡◌, ◌≢◌, ◌⊎◌, ℕ, zero, suc, ◌<◌, ◌≤◌, Bool, true, false, List, length, ℤ, pos, ◌-ℤ◌, ◌≤ℤ◌, ◌<ℤ◌, Option, Some, None, refl, sym, ap, subst, ◌∙◌, arith, inl, inr, ⊎_elim}
use Rattle.std.proofs.lemmas.Int.{ints, by_lt_z}
use Rattle.std.proofs.lemmas.List.{length-replicate}
use Rattle.sfm_spec.specs.Sets.{size, whole_set, sum_over, IsWithin}
use Rattle.sfm_spec.specs.Slopes.{IsLowerSlope}
use Rattle.sfm_spec.specs.Families.{Meaning, AreTerms, IsAllowed, IsMinimiser, IsLeast, IsGreatest, sum_at, shifted_at, sized_shift}
use Rattle.sfm_spec.specs.Laws.{Mark}
use Rattle.sfm_spec.specs.Search.{IsAbove, IsCeiling, IsEven, IsFloor, IsNext}
use Rattle.sfm_spec.proofs.Sets.{Has-whole}
use Rattle.sfm_spec.proofs.Sizes.{AreSizes, size_grows, size_within, weight_grows}
use Rattle.sfm_spec.proofs.Walks.{has_below}
use Rattle.sfm_spec.proofs.Lattice.{empty_allowed, whole_allowed, none_in_empty, least_exists, greatest_exists, also_minimiser}
use Rattle.sfm_spec.proofs.Slopes.{lower_by, higher_by}
use Rattle.sfm_spec.proofs.Nest.{slopes_nest, rises_same, rises_more, rises_less, same_by_ratio}

-- a set of n places lies within the whole one
pub within_whole : (n : ℕ) (s : List Bool) → length s ≡ n → IsWithin s (whole_set n)
within_whole n s l e has = Has-whole n e (rw (← l) (has_below s e has))

module _ (terms : List Meaning) (n : ℕ) (sizes : List ℤ) (fit : AreTerms n terms)
    (sized : length sizes ≡ n) (ones : AreSizes sizes) where
  -- a smaller set within another weighs at least 1 less
  pub weight_less : (a t : List Bool) → length a ≡ n → length t ≡ n → IsWithin a t → size a < size t
      → pos 1 ≤ℤ (sum_over t sizes -ℤ sum_over a sizes)
  weight_less a t la lt inside less =
      at (weight_grows a t sizes (la ∙ sym lt) (lt ∙ sym sized) ones inside) where
        at : (a ≡ t) ⊎ (sum_over a sizes <ℤ sum_over t sizes)
            → pos 1 ≤ℤ (sum_over t sizes -ℤ sum_over a sizes)
        at (inl e) = let f = ap size e in absurd (omega (arith, f, less))
        at (inr l) = omega (arith, ints, l)

  -- the even slope is lower than each at which the larger set is worth less, and higher than each
  -- at which it is worth more
  pub even_is_lower : (p q p' q' : ℤ) (a t : List Bool) → pos 1 ≤ℤ q → pos 1 ≤ℤ q' → length a ≡ n
      → length t ≡ n → IsWithin a t → size a < size t → IsEven terms sizes p q a t
      → shifted_at terms q' (sized_shift sizes p') t <ℤ shifted_at terms q' (sized_shift sizes p') a
      → IsLowerSlope p q p' q'
  even_is_lower p q p' q' a t lq lq' la lt inside less even h =
      lower_by p q p' q' (sum_at terms t -ℤ sum_at terms a) (sum_over t sizes -ℤ sum_over a sizes)
      lq lq' (weight_less a t la lt inside less)
      (rises_same terms sizes p q a t even) (rises_less terms sizes p' q' a t h)

  -- the even slope is higher than each at which the larger set is worth more
  pub even_is_higher : (p q p' q' : ℤ) (a t : List Bool) → pos 1 ≤ℤ q → pos 1 ≤ℤ q' → length a ≡ n
      → length t ≡ n → IsWithin a t → size a < size t → IsEven terms sizes p q a t
      → shifted_at terms q' (sized_shift sizes p') a <ℤ shifted_at terms q' (sized_shift sizes p') t
      → IsLowerSlope p' q' p q
  even_is_higher p q p' q' a t lq lq' la lt inside less even h =
      higher_by p q p' q' (sum_at terms t -ℤ sum_at terms a) (sum_over t sizes -ℤ sum_over a sizes)
      lq lq' (weight_less a t la lt inside less)
      (rises_same terms sizes p q a t even) (rises_more terms sizes p' q' a t h)

  -- a floor has n places
  pub floor_places : (before : Option Mark) (a : List Bool) → IsFloor terms n sizes before a
      → length a ≡ n
  floor_places None a h = rw h (length-replicate n false)
  floor_places (Some mark) a h = h.1.minimiser.places

  -- a floor is allowed
  pub floor_allowed : (before : Option Mark) (a : List Bool) → IsFloor terms n sizes before a
      → IsAllowed terms a
  floor_allowed None a h = rw h (empty_allowed n terms fit)
  floor_allowed (Some mark) a h = h.1.minimiser.allowed

  -- a floor lies within each minimiser at a slope above
  pub floor_within : (before : Option Mark) (a : List Bool) → IsFloor terms n sizes before a
      → (p q : ℤ) (s : List Bool) → pos 1 ≤ℤ q → IsAbove before p q
      → IsMinimiser terms n q (sized_shift sizes p) s → IsWithin a s
  floor_within None a h p q s lq above m = λ e has. absurd (none_in_empty n e (rw h at has))
  floor_within (Some mark) a h p q s lq above m =
      slopes_nest terms n sizes fit sized ones mark.num mark.den p q a s h.0 lq above h.1.minimiser
      m

  -- the even slope of a floor and of an allowed set above it is above the mark before
  pub floor_below : (before : Option Mark) (a t : List Bool) → IsFloor terms n sizes before a
      → length t ≡ n → IsAllowed terms t → IsWithin a t → size a < size t
      → (p q : ℤ) → pos 1 ≤ℤ q → IsEven terms sizes p q a t → IsAbove before p q
  floor_below None a t h lt allowed inside less p q lq even = tt
  floor_below (Some mark) a t h lt allowed inside less p q lq even =
      even_is_higher p q mark.num mark.den a t lq h.0 h.1.minimiser.places lt inside less even
      worth_more where
        la : length a ≡ n
        la = h.1.minimiser.places

        worth_more : shifted_at terms mark.den (sized_shift sizes mark.num) a <ℤ shifted_at terms
            mark.den (sized_shift sizes mark.num) t
        worth_more = by_lt_z (shifted_at terms mark.den (sized_shift sizes mark.num) a)
            (shifted_at terms mark.den (sized_shift sizes mark.num) t) (λ l. l)
            (λ le. clash le) where
              clash : shifted_at terms mark.den (sized_shift sizes mark.num) t ≤ℤ shifted_at terms
                  mark.den (sized_shift sizes mark.num) a
                  → shifted_at terms mark.den (sized_shift sizes mark.num) a <ℤ shifted_at terms
                  mark.den (sized_shift sizes mark.num) t
              clash le =
                  let lq' = h.0 in
                  let m : IsMinimiser terms n mark.den (sized_shift sizes mark.num)
                  t = also_minimiser
                  terms n mark.den (sized_shift sizes mark.num) (omega (arith, ints, lq')) fit a t
                  h.1.minimiser lt allowed le in
                  let k = size_within t a (lt ∙ sym la) (h.1.within t m) in
                  absurd (omega (arith, k, less))

  -- the whole set is a ceiling of each floor but itself
  pub whole_ceiling : (before : Option Mark) (a : List Bool) → IsFloor terms n sizes before a
      → a ≢ whole_set n → IsCeiling terms n sizes a (whole_set n)
  whole_ceiling before a h ne = record {
    places = length-replicate n true;
    allowed = whole_allowed n terms fit;
    within = within_whole n a la;
    larger = ⊎_elim (λ e. absurd (ne e)) (λ l. l)
        (size_grows a (whole_set n) (la ∙ sym (length-replicate n true)) (within_whole n a la));
    at_slope = inl refl;
  } where
    la : length a ≡ n
    la = floor_places before a h

  module _ (before : Option Mark) (a t : List Bool) (floor : IsFloor terms n sizes before a)
      (ceiling : IsCeiling terms n sizes a t) (p q : ℤ) (lq : pos 1 ≤ℤ q)
      (even : IsEven terms sizes p q a t) where
    la : length a ≡ n
    la = floor_places before a floor

    -- the slope of a turn is above the mark before
    pub turn_above : IsAbove before p q
    turn_above = floor_below before a t floor ceiling.places ceiling.allowed ceiling.within
        ceiling.larger p q lq even

    -- where the least minimiser at the slope of a turn is the first set, the search is done
    pub turn_found : IsLeast terms n q (sized_shift sizes p) a → (g : List Bool)
        → IsGreatest terms n q (sized_shift sizes p) g → size a < size g
    turn_found least g great =
        let m : IsMinimiser terms n q (sized_shift sizes p) t = also_minimiser terms n q
        (sized_shift sizes p) (omega (arith, ints, lq)) fit a t least.minimiser ceiling.places
        ceiling.allowed (omega (arith, ints, even)) in
        let k = size_within t g (ceiling.places ∙ sym great.minimiser.places) (great.within t m) in
        let l = ceiling.larger in
        omega (arith, k, l)

    -- and otherwise it goes on with that minimiser, which is a smaller ceiling
    pub turn_goes_on : (y : List Bool) → IsLeast terms n q (sized_shift sizes p) y → y ≢ a
        → IsCeiling terms n sizes a y × (size y < size t)
    turn_goes_on y least ne = (
      record {
        places = ly;
        allowed = least.minimiser.allowed;
        within = inside;
        larger = larger;
        at_slope = inr (p, q, lq, least.minimiser, worth_less);
      },
      smaller,
    ) where
      ly : length y ≡ n
      ly = least.minimiser.places

      inside : IsWithin a y
      inside = floor_within before a floor p q y lq turn_above least.minimiser

      larger : size a < size y
      larger = ⊎_elim (λ e. absurd (ne (sym e))) (λ l. l) (size_grows a y (la ∙ sym ly) inside)

      worth_less : shifted_at terms q (sized_shift sizes p) y <ℤ shifted_at terms q
          (sized_shift sizes p) a
      worth_less = by_lt_z (shifted_at terms q (sized_shift sizes p) y)
          (shifted_at terms q (sized_shift sizes p) a) (λ l. l) (λ le. clash le) where
            clash : shifted_at terms q (sized_shift sizes p) a ≤ℤ shifted_at terms q
                (sized_shift sizes p) y → shifted_at terms q (sized_shift sizes p) y <ℤ shifted_at
                terms
                q (sized_shift sizes p) a
            clash le =
                let m : IsMinimiser terms n q (sized_shift sizes p) a = also_minimiser terms n q
                (sized_shift sizes p) (omega (arith, ints, lq)) fit y a least.minimiser la
                (floor_allowed before a floor) le in
                let k = size_within y a (ly ∙ sym la) (least.within a m) in
                absurd (omega (arith, k, larger))

      within_t : IsWithin y t
      within_t = at ceiling.at_slope where
        at : (t ≡ whole_set n) ⊎ ((p q : ℤ) × (pos 1 ≤ℤ q)
            × IsMinimiser terms n q (sized_shift sizes p) t
            × (shifted_at terms q (sized_shift sizes p) t <ℤ shifted_at terms q
            (sized_shift sizes p) a)) → IsWithin y t
        at (inl e) = rw e (within_whole n y ly)
        at (inr (p', q', lq', m, less)) =
            slopes_nest terms n sizes fit sized ones p q p' q' y t lq lq'
            (even_is_lower p q p' q' a t lq lq' la ceiling.places ceiling.within ceiling.larger
            even less) least.minimiser m

      smaller : size y < size t
      smaller = ⊎_elim (λ e. absurd (clash e)) (λ l. l)
          (size_grows y t (ly ∙ sym ceiling.places) within_t) where
            clash : y ≡ t → ⊥
            clash e =
                let f : shifted_at terms q (sized_shift sizes p) y ≡ shifted_at terms q
                (sized_shift sizes p) t = ap (shifted_at terms q (sized_shift sizes p)) e in
                omega (arith, ints, worth_less, even, f)

  -- the slope of a turn: the rise of the sum over the rise of the size
  even_slope : (a t : List Bool) → IsEven terms sizes (sum_at terms t -ℤ sum_at terms a)
      (sum_over t sizes -ℤ sum_over a sizes) a t
  even_slope a t = same_by_ratio terms sizes (sum_at terms t -ℤ sum_at terms a)
      (sum_over t sizes -ℤ sum_over a sizes) a t refl

  search : (fuel : ℕ) (before : Option Mark) (a t : List Bool) → size t ≤ fuel
      → IsFloor terms n sizes before a → IsCeiling terms n sizes a t → IsNext terms n sizes before a
  search zero before a t few floor ceiling =
      let l = ceiling.larger in absurd (omega (arith, l, few))
  search (suc fuel) before a t few floor ceiling =
      at (least_exists terms n q (sized_shift sizes p) (omega (arith, ints, lq)) fit)
      (search fuel) where
        p : ℤ
        p = sum_at terms t -ℤ sum_at terms a

        q : ℤ
        q = sum_over t sizes -ℤ sum_over a sizes

        lq : pos 1 ≤ℤ q
        lq = weight_less a t (floor_places before a floor) ceiling.places ceiling.within
            ceiling.larger

        found : IsLeast terms n q (sized_shift sizes p) a → (g : List Bool)
            × IsGreatest terms n q (sized_shift sizes p) g → IsNext terms n sizes before a
        found least (g, great) = record {
          num = p;
          den = q;
          members = g;
          positive = lq;
          above = turn_above before a t floor ceiling p q lq (even_slope a t);
          least = least;
          greatest = great;
          larger = turn_found before a t floor ceiling p q lq (even_slope a t) least g great;
        }

        at : (y : List Bool) × IsLeast terms n q (sized_shift sizes p) y
            → ((before : Option Mark) (a t : List Bool) → size t ≤ fuel
            → IsFloor terms n sizes before a
            → IsCeiling terms n sizes a t → IsNext terms n sizes before a)
            → IsNext terms n sizes before a
        at (y, least) next =
            by (size_grows a y (floor_places before a floor ∙ sym least.minimiser.places)
            (floor_within before a floor p q y lq
            (turn_above before a t floor ceiling p q lq (even_slope a t)) least.minimiser)) where
              by : (a ≡ y) ⊎ (size a < size y) → IsNext terms n sizes before a
              by (inl e) = found (subst (λ z. IsLeast terms n q (sized_shift sizes p) z) (sym e)
                  least)
                  (greatest_exists terms n q (sized_shift sizes p) (omega (arith, ints, lq)) fit)
              by (inr l) =
                  let (c, less) = turn_goes_on before a t floor ceiling p q lq (even_slope a t) y
                  least
                  (λ e. let f = ap size e in omega (arith, f, l)) in
                  next before a y (omega (arith, less, few)) floor c

  -- above each floor but the whole set there is a next slope with two minimisers
  pub next_exists : (before : Option Mark) (a : List Bool) → IsFloor terms n sizes before a
      → a ≢ whole_set n → IsNext terms n sizes before a
  next_exists before a floor ne = search (size (whole_set n)) before a (whole_set n) (omega arith)
      floor (whole_ceiling before a floor ne)
