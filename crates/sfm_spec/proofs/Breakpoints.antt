-- The list of all breakpoints: there is exactly one, what its next mark is, and how large its
-- numbers are.
use Rattle.std.proofs.Common.{◌≡◌, ◌↔◌, ◌⊎◌, ℕ, zero, suc, ◌+◌, ◌*◌, ◌<◌, ◌≤◌, Bool, true, false, List, [], ◌∷◌, length, get_or, ℤ, pos, ◌+ℤ◌, ◌-ℤ◌, ◌*ℤ◌, ◌≤ℤ◌, Option, Some, None, unwrap_or, refl, sym, ap, ◌∙◌, arith, inl, inr, ⊎_elim}
use Rattle.std.specs.Prelude.{unsigned_abs}
use borrow.Author.Differences.{abs_is}
use Rattle.std.proofs.lemmas.Int.{ints, by_lt_z}
use Rattle.std.proofs.lemmas.List.{length-replicate}
use Rattle.sfm_spec.specs.Sets.{size, empty_set, whole_set, sum_over, IsWithin}
use Rattle.sfm_spec.specs.Bounds.{total_of}
use Rattle.sfm_spec.specs.Slopes.{IsSameSlope, IsLowest}
use Rattle.sfm_spec.specs.Families.{Meaning, AreTerms, IsAllowed, IsMinimiser, IsLeast, IsGreatest, IsBreakpoint, sum_at, sized_shift, value_at}
use Rattle.sfm_spec.specs.Laws.{Mark, no_mark, IsChain, AreBreakpoints}
use Rattle.sfm_spec.proofs.Scaled.{times-comm}
use Rattle.sfm_spec.proofs.Sizes.{AreSizes, size_grows, size_within, size-whole, weight_within, weight-whole, weight-empty}
use Rattle.sfm_spec.specs.Walks.{term_at}
use Rattle.sfm_spec.specs.Search.{AreLowest, IsEven, IsFloor, IsNext, mark_at}
use Rattle.sfm_spec.proofs.Lattice.{none_in_empty}
use Rattle.sfm_spec.proofs.Lowest.{lowest_exists, lowest_unique, lowest_den, lowest_num}
use Rattle.sfm_spec.proofs.Nest.{slopes_nest, least_same_slope, greatest_same_slope, same_greatest, rises_same}
use Rattle.sfm_spec.proofs.Search.{floor_places, next_exists, within_whole, weight_less}
use Rattle.sfm_spec.proofs.Chain.{mark_is, breakpoints_of_chain, chain_of_breakpoints}

-- the magnitude of a difference is at most both magnitudes together
pub abs_difference : (a b : ℤ) → unsigned_abs (a -ℤ b) ≤ unsigned_abs a + unsigned_abs b
abs_difference a b = let x = abs_is a in let y = abs_is b in let z = abs_is
    (a -ℤ b) in omega (arith, ints, x, y, z)

-- the sum is worth no more than the bounds of all terms together
pub sum_within : (terms : List Meaning) (bounds : List ℤ) (s : List Bool)
    → length bounds ≡ length terms
    → ((i : ℕ) → i < length terms
    → pos (unsigned_abs (unwrap_or (value_at (term_at terms i) s) (pos 0))) ≤ℤ get_or bounds i
    (pos 0)) → pos (unsigned_abs (sum_at terms s)) ≤ℤ total_of bounds
sum_within [] [] s same each = omega (arith, ints)
sum_within [] (b ∷ bounds) s same each = absurd (omega arith)
sum_within (t ∷ terms) [] s same each = absurd (omega arith)
sum_within (t ∷ terms) (b ∷ bounds) s same each =
    let r = sum_within terms bounds s (omega arith) (λ i l. each (suc i) (omega arith)) in
    let h = each 0 (omega arith) in
    let v : ℤ = unwrap_or (value_at t s) (pos 0) in
    let x = abs_is v in
    let y = abs_is (sum_at terms s) in
    let z = abs_is (v +ℤ sum_at terms s) in
    omega (arith, ints, r, h, x, y, z)

module _ (terms : List Meaning) (n : ℕ) (sizes : List ℤ) (fit : AreTerms n terms)
    (sized : length sizes ≡ n) (ones : AreSizes sizes) where
  -- ---- how large the numbers of a slope are

  -- in lowest terms the slope at which two sets are worth as much has at most the difference of
  -- their sizes as its denominator, and at most the difference of their values as its numerator
  pub even_bounds : (p q : ℤ) (a t : List Bool) → IsLowest p q → IsEven terms sizes p q a t
      → length a ≡ n → length t ≡ n → IsWithin a t → size a < size t
      → (q ≤ℤ (sum_over t sizes -ℤ sum_over a sizes))
      × (unsigned_abs p ≤ unsigned_abs (sum_at terms t -ℤ sum_at terms a))
  even_bounds p q a t low even la lt inside less =
      let d = weight_less terms n sizes fit sized ones a t la lt inside less in
      let r = rises_same terms sizes p q a t even in
      let same : IsSameSlope p q (sum_at terms t -ℤ sum_at terms a)
      (sum_over t sizes -ℤ sum_over a sizes) =
      sym r ∙ times-comm q (sum_at terms t -ℤ sum_at terms a) in (
        lowest_den p q (sum_at terms t -ℤ sum_at terms a) (sum_over t sizes -ℤ sum_over a sizes) low
            d same,
        lowest_num p q (sum_at terms t -ℤ sum_at terms a)
            (sum_over t sizes -ℤ sum_over a sizes) low d same,
      )

  -- the size of a difference is at most that of the whole
  pub weight_difference : (a t : List Bool) → length a ≡ n → length t ≡ n
      → (sum_over t sizes -ℤ sum_over a sizes) ≤ℤ total_of sizes
  weight_difference a t la lt =
      let low = weight_within (empty_set n) a sizes (length-replicate n false ∙ sym la)
      (la ∙ sym sized) ones (λ e has. absurd (none_in_empty n e has)) in
      let high = weight_within t (whole_set n) sizes (lt ∙ sym (length-replicate n true))
      (length-replicate n true ∙ sym sized) ones (within_whole n t lt) in
      let zero' = weight-empty n sizes in
      let all = weight-whole n sizes sized in
      omega (arith, ints, low, high, zero', all)

  -- at a breakpoint another minimiser lies within the greatest, is smaller, and is worth as much
  smaller_at : (p q : ℤ) (s : List Bool) → IsBreakpoint terms n sizes p q s
      → (t : List Bool) × IsMinimiser terms n q (sized_shift sizes p) t × IsWithin t s
      × (size t < size s) × IsEven terms sizes p q t s
  smaller_at p q s b =
      let m = b.greatest.minimiser in
      let (t, other, ne) = b.another in
      let inside = b.greatest.within t other in
      let up' = m.least t other.places other.allowed in
      let down' = other.least s m.places m.allowed in (
        t,
        other,
        inside,
        ⊎_elim (λ e. absurd (ne e)) (λ l. l)
            (size_grows t s (other.places ∙ sym m.places) inside),
        omega (arith, ints, up', down'),
      )

  -- a breakpoint in lowest terms has at most all sizes together as its denominator
  pub breakpoint_den : (p q : ℤ) (s : List Bool) → IsLowest p q → IsBreakpoint terms n sizes p q s
      → q ≤ℤ total_of sizes
  breakpoint_den p q s low b =
      let (t, other, inside, less, even) = smaller_at p q s b in
      let m = b.greatest.minimiser in
      let d = (even_bounds p q t s low even other.places m.places inside less).0 in
      let w = weight_difference t s other.places m.places in
      omega (arith, ints, d, w)

  -- and as its numerator at most twice what an allowed set is worth
  pub breakpoint_num : (bound : ℕ)
      → ((s : List Bool) → length s ≡ n → IsAllowed terms s → unsigned_abs (sum_at terms s) ≤ bound)
      → (p q : ℤ) (s : List Bool) → IsLowest p q → IsBreakpoint terms n sizes p q s
      → unsigned_abs p ≤ 2 * bound
  breakpoint_num bound bounded p q s low b =
      let (t, other, inside, less, even) = smaller_at p q s b in
      let m = b.greatest.minimiser in
      let num = (even_bounds p q t s low even other.places m.places inside less).1 in
      let d = abs_difference (sum_at terms s) (sum_at terms t) in
      let x = bounded s m.places m.allowed in
      let y = bounded t other.places other.allowed in
      omega (arith, num, d, x, y)

  -- of all breakpoints no denominator exceeds all sizes together
  pub low_breakpoints : (marks : List Mark) → AreBreakpoints terms n sizes marks → (i : ℕ)
      → i < length marks → (mark_at marks i).den ≤ℤ total_of sizes
  low_breakpoints marks b i l = breakpoint_den (mark_at marks i).num (mark_at marks i).den
      (mark_at marks i).members (b.lowest i l) (b.sound i l)

  -- ---- the next mark of a chain

  -- a slope with the first set as its least minimiser, and a larger one, is that of the chain's
  -- next mark
  pub next_is : (a : List Bool) (m : Mark) (marks : List Mark) → IsChain terms n sizes a (m ∷ marks)
      → (p q : ℤ) (s : List Bool) → pos 1 ≤ℤ q
      → IsLeast terms n q (sized_shift sizes p) a → IsGreatest terms n q (sized_shift sizes p) s
      → size a < size s → IsSameSlope p q m.num m.den × (m.members ≡ s)
  next_is a m marks h p q s one least great less = (
    same,
    same_greatest terms n m.den (sized_shift sizes m.num) m.members s h.1
        (greatest_same_slope terms n sizes p q m.num m.den s one h.0 same great),
  ) where
    too_large : (r : List Bool) → length r ≡ n → size a < size r → IsWithin r a → ⊥
    too_large r lr l inside = let k = size_within r a (lr ∙ sym h.2.minimiser.places)
        inside in omega (arith, k, l)

    same : IsSameSlope p q m.num m.den
    same = by_lt_z (p *ℤ m.den) (m.num *ℤ q)
        (λ lt. absurd (too_large s great.minimiser.places less
        (slopes_nest terms n sizes fit sized ones p q m.num m.den s a one h.0 lt great.minimiser
        h.2.minimiser)))
        (λ ge. by_lt_z (m.num *ℤ q) (p *ℤ m.den)
        (λ lt. absurd (too_large m.members h.1.minimiser.places h.3
        (slopes_nest terms n sizes fit sized ones m.num m.den p q m.members a h.0 one lt
        h.1.minimiser least.minimiser)))
        (λ le. omega (arith, ints, ge, le)))

  no_more : (a : List Bool) (m : Mark) (marks : List Mark) → IsChain terms n sizes a (m ∷ marks)
      → a ≡ whole_set n → ⊥
  no_more a m marks h e =
      let k = size_within m.members (whole_set n)
      (h.1.minimiser.places ∙ sym (length-replicate n true))
      (within_whole n m.members h.1.minimiser.places) in
      let f = ap size e in
      let l = h.3 in
      omega (arith, k, f, l)

  -- what the marks after a set must be, told by the least and the greatest minimiser at a slope
  pub next_exactly : (a : List Bool) (marks : List Mark) (p q : ℤ) (s : List Bool)
      → IsChain terms n sizes a marks → AreLowest marks → IsLowest p q
      → ((0 < length marks) × (mark_at marks 0 ≡ record { num = p; den = q; members = s }))
      ↔ (IsLeast terms n q (sized_shift sizes p) a × IsGreatest terms n q (sized_shift sizes p) s
      × (size a < size s))
  next_exactly a [] p q s h lowest low = ((λ (l, e). absurd (omega (arith, l))), back) where
    back : IsLeast terms n q (sized_shift sizes p) a × IsGreatest terms n q (sized_shift sizes p) s
        × (size a < size s) → (0 < 0) × (no_mark ≡ record { num = p; den = q; members = s })
    back (least, great, less) =
        let k = size_within s (whole_set n) (great.minimiser.places ∙ sym (length-replicate n true))
        (within_whole n s great.minimiser.places) in
        let f = ap size h in
        absurd (omega (arith, k, f, less))
  next_exactly a (m ∷ marks) p q s h lowest low = (to, back) where
    to : (0 < length (m ∷ marks)) × (m ≡ record { num = p; den = q; members = s })
        → IsLeast terms n q (sized_shift sizes p) a × IsGreatest terms n q (sized_shift sizes p) s
        × (size a < size s)
    to (l, e) =
        let ep : m.num ≡ p = ap (λ z. z.num) e in
        let eq : m.den ≡ q = ap (λ z. z.den) e in
        let es : m.members ≡ s = ap (λ z. z.members) e in
        (rw (ep, eq) at h.2, rw (ep, eq, es) at h.1, rw es at h.3)

    back : IsLeast terms n q (sized_shift sizes p) a × IsGreatest terms n q (sized_shift sizes p) s
        × (size a < size s) → (0 < length (m ∷ marks))
        × (m ≡ record { num = p; den = q; members = s })
    back (least, great, less) =
        let (same, e) = next_is a m marks h p q s low.positive least great less in
        let (ep, eq) = lowest_unique p q m.num m.den low (lowest 0 (omega arith)) same in
        (omega arith, mark_is m p q s (sym ep) (sym eq) e)

  -- no mark is left exactly where the set is the whole one
  pub none_left_exactly : (a : List Bool) (marks : List Mark) → IsChain terms n sizes a marks
      → (marks ≡ []) ↔ (a ≡ whole_set n)
  none_left_exactly a [] h = ((λ e. h), (λ e. refl))
  none_left_exactly a (m ∷ marks) h = ((λ e. cc), (λ e. absurd (no_more a m marks h e)))

  -- ---- one list of breakpoints, and no other

  chain_unique : (a : List Bool) (marks marks' : List Mark) → IsChain terms n sizes a marks
      → IsChain terms n sizes a marks' → AreLowest marks → AreLowest marks' → marks ≡ marks'
  chain_unique a [] [] h h' low low' = refl
  chain_unique a [] (m ∷ marks') h h' low low' = absurd (no_more a m marks' h' h)
  chain_unique a (m ∷ marks) [] h h' low low' = absurd (no_more a m marks h h')
  chain_unique a (m ∷ marks) (m' ∷ marks') h h' low low' =
      let (same, e) = next_is a m' marks' h' m.num m.den m.members h.0 h.2 h.1 h.3 in
      let (ep, eq) = lowest_unique m.num m.den m'.num m'.den (low 0 (omega arith))
      (low' 0 (omega arith)) same in
      let first : m' ≡ m = mark_is m' m.num m.den m.members (sym ep) (sym eq) e in
      let rest = chain_unique m.members marks marks' h.4 (rw e at h'.4)
      (λ i l. low (suc i) (omega arith)) (λ i l. low' (suc i) (omega arith)) in
      ap (λ z. z ∷ marks) (sym first) ∙ ap (λ z. m' ∷ z) rest

  -- two lists of all breakpoints are the same
  pub breakpoints_unique : (marks marks' : List Mark) → AreBreakpoints terms n sizes marks
      → AreBreakpoints terms n sizes marks' → marks ≡ marks'
  breakpoints_unique marks marks' b b' =
      chain_unique (empty_set n) marks marks'
      (chain_of_breakpoints terms n sizes fit sized ones marks b)
      (chain_of_breakpoints terms n sizes fit sized ones marks' b') b.lowest b'.lowest

  LowestChain : List Bool → Type 0
  LowestChain a = (marks : List Mark) × IsChain terms n sizes a marks × AreLowest marks

  module _ (before : Option Mark) (a : List Bool) (floor : IsFloor terms n sizes before a) where
    floor_size : (a ≡ whole_set n) ⊎ (size a < n)
    floor_size =
        let la = floor_places terms n sizes fit sized ones before a floor in
        let w = size-whole n in
        ⊎_elim (λ e. inl e) (λ l. inr (omega (arith, l, w)))
        (size_grows a (whole_set n) (la ∙ sym (length-replicate n true)) (within_whole n a la))

    longer : size a < n → ((m : Mark) → IsFloor terms n sizes (Some m) m.members
        → size a < size m.members → LowestChain m.members) → LowestChain a
    unfolding LowestChain
    longer less next = from (next_exists terms n sizes fit sized ones before a floor
        (λ e. let f = ap size e in let w = size-whole n in omega (arith, f, w, less))) where
          from : IsNext terms n sizes before a → (marks : List Mark) × IsChain terms n sizes a marks
              × AreLowest marks
          from x =
              let (p, q, low, same) = lowest_exists x.num x.den x.positive in
              let m : Mark = record { num = p; den = q; members = x.members } in
              let least = least_same_slope terms n sizes x.num x.den p q a x.positive low.positive
              same
              x.least in
              let great = greatest_same_slope terms n sizes x.num x.den p q x.members x.positive
              low.positive same x.greatest in
              let (marks, h, lowest) = next m (low.positive, great) x.larger in
              (m ∷ marks, (low.positive, great, least, x.larger, h), each m marks low lowest) where
                each : (m : Mark) (marks : List Mark) → IsLowest m.num m.den → AreLowest marks
                    → AreLowest (m ∷ marks)
                each m marks low lowest zero l = low
                each m marks low lowest (suc i) l = lowest i (omega arith)

  chain_exists : (fuel : ℕ) (before : Option Mark) (a : List Bool) → n ≤ size a + fuel
      → IsFloor terms n sizes before a → LowestChain a
  unfolding LowestChain
  chain_exists zero before a few floor = at (floor_size before a floor) where
    at : (a ≡ whole_set n) ⊎ (size a < n) → (marks : List Mark) × IsChain terms n sizes a marks
        × AreLowest marks
    at (inl e) = ([], e, λ i l. absurd (omega arith))
    at (inr l) = absurd (omega (arith, l, few))
  chain_exists (suc fuel) before a few floor =
      at (chain_exists fuel) (floor_size before a floor) where
        at : ((before : Option Mark) (a : List Bool) → n ≤ size a + fuel
            → IsFloor terms n sizes before a → LowestChain a) → (a ≡ whole_set n) ⊎ (size a < n)
            → (marks : List Mark) × IsChain terms n sizes a marks × AreLowest marks
        at next (inl e) = ([], e, λ i l. absurd (omega arith))
        at next (inr l) = longer before a floor l
            (λ m f k. next (Some m) m.members (omega (arith, few, k)) f)

  -- there is one
  pub breakpoints_exist : (marks : List Mark) × AreBreakpoints terms n sizes marks
  unfolding LowestChain
  breakpoints_exist = from (chain_exists n None (empty_set n) (omega arith) refl) where
    from : LowestChain (empty_set n) → (marks : List Mark) × AreBreakpoints terms n sizes marks
    from (marks, h, low) = (marks, breakpoints_of_chain terms n sizes fit sized ones marks h low)
