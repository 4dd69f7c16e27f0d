-- A list of slopes with their greatest minimisers is all breakpoints in ascending order exactly
-- where it is a chain: each set is larger than the one before, which is the least minimiser at the
-- slope, from the empty set to the whole one.
use Rattle.std.proofs.Common.{◌≡◌, ◌≢◌, ◌↔◌, ◌⊎◌, ℕ, zero, suc, ◌+◌, ◌<◌, ◌≤◌, Bool, true, List, [], ◌∷◌, ◌++◌, length, ℤ, pos, ◌*ℤ◌, ◌≤ℤ◌, ◌<ℤ◌, Option, Some, None, refl, sym, ap, ◌∙◌, arith, inl, inr}
use Rattle.std.proofs.lemmas.Int.{ints, by_lt_z}
use Rattle.std.proofs.lemmas.List.{length-replicate}
use Rattle.sfm_spec.specs.Sets.{size, empty_set, whole_set, IsWithin}
use Rattle.sfm_spec.specs.Slopes.{IsSameSlope, IsLowerSlope, IsLowest}
use Rattle.sfm_spec.specs.Families.{Meaning, AreTerms, IsMinimiser, IsLeast, IsGreatest, IsBreakpoint, sized_shift}
use Rattle.sfm_spec.specs.Laws.{Mark, IsChain, AreBreakpoints}
use Rattle.sfm_spec.specs.Search.{AreLowest, IsAbove, IsChainTo, IsFloor, IsNext, mark_at}
use Rattle.sfm_spec.proofs.Sets.{same_sets, Has-whole}
use Rattle.sfm_spec.proofs.Sizes.{AreSizes, size_grows, size_within, size-empty, size-whole}
use Rattle.sfm_spec.proofs.Lattice.{none_in_empty}
use Rattle.sfm_spec.proofs.Slopes.{lower_same, slopes_trans, not_lower_itself}
use Rattle.sfm_spec.proofs.Lowest.{lowest_exists, lowest_unique}
use Rattle.sfm_spec.proofs.Nest.{slopes_nest, same_slope, least_same_slope, greatest_same_slope, same_greatest}
use Rattle.sfm_spec.proofs.Search.{floor_places, floor_within, next_exists, within_whole}

-- one mark more
pub chain_push : (terms : List Meaning) (n : ℕ) (sizes : List ℤ) (before : List Bool)
    (marks : List Mark) (last : List Bool) (mark : Mark) → IsChainTo terms n sizes before marks last
    → pos 1 ≤ℤ mark.den → IsGreatest terms n mark.den (sized_shift sizes mark.num) mark.members
    → IsLeast terms n mark.den (sized_shift sizes mark.num) last → size last < size mark.members
    → IsChainTo terms n sizes before (marks ++ mark ∷ []) mark.members
chain_push terms n sizes before [] last mark h one greatest least larger =
    (one, greatest, rw h least, rw h larger, refl)
chain_push terms n sizes before (m ∷ marks) last mark h one greatest least larger = (
  h.0,
  h.1,
  h.2,
  h.3,
  chain_push terms n sizes m.members marks last mark h.4 one greatest least
      larger,
)

-- a chain as far as the whole set is a chain
pub chain_whole : (terms : List Meaning) (n : ℕ) (sizes : List ℤ) (before : List Bool)
    (marks : List Mark) (last : List Bool) → IsChainTo terms n sizes before marks last
    → last ≡ whole_set n
    → IsChain terms n sizes before marks
chain_whole terms n sizes before [] last h e = h ∙ e
chain_whole terms n sizes before (m ∷ marks) last h e =
    (h.0, h.1, h.2, h.3, chain_whole terms n sizes m.members marks last h.4 e)

-- a chain has at most as many marks as the sets have places
pub chain_count : (terms : List Meaning) (n : ℕ) (sizes : List ℤ) (before : List Bool)
    (marks : List Mark) → IsChain terms n sizes before marks → size before + length marks ≤ n
chain_count terms n sizes before [] h = let e = ap size h ∙ size-whole n in omega (arith, e)
chain_count terms n sizes before (m ∷ marks) h =
    let r = chain_count terms n sizes m.members marks h.4 in let l = h.3 in omega (arith, r, l)

-- the same of a chain as far as some set
pub chain_to_count : (terms : List Meaning) (n : ℕ) (sizes : List ℤ) (before : List Bool)
    (marks : List Mark) (last : List Bool) → IsChainTo terms n sizes before marks last
    → size before + length marks ≤ size last
chain_to_count terms n sizes before [] last h = let e = ap size h in omega (arith, e)
chain_to_count terms n sizes before (m ∷ marks) last h =
    let r = chain_to_count terms n sizes m.members marks last
    h.4 in let l = h.3 in omega (arith, r, l)

-- a mark, told by its three parts
pub mark_is : (m : Mark) (p q : ℤ) (s : List Bool) → m.num ≡ p → m.den ≡ q → m.members ≡ s
    → m ≡ record { num = p; den = q; members = s }
mark_is m p q s a b c = to_num ∙ (to_den ∙ to_members) where
  to_num : m ≡ record { num = p; den = m.den; members = m.members }
  to_num = ap (λ z. record { num = z; den = m.den; members = m.members }) a

  to_den : Path Mark (record { num = p; den = m.den; members = m.members })
      (record { num = p; den = q; members = m.members })
  to_den = ap (λ z. record { num = p; den = z; members = m.members }) b

  to_members : Path Mark (record { num = p; den = q; members = m.members })
      (record { num = p; den = q; members = s })
  to_members = ap (λ z. record { num = p; den = q; members = z }) c

module _ (terms : List Meaning) (n : ℕ) (sizes : List ℤ) (fit : AreTerms n terms)
    (sized : length sizes ≡ n) (ones : AreSizes sizes) where
  -- ---- a chain has all breakpoints

  -- the first slope of a chain is above the slope before
  first_above : (before : Option Mark) (a : List Bool) (mark : Mark) (marks : List Mark)
      → IsFloor terms n sizes before a → IsChain terms n sizes a (mark ∷ marks)
      → IsAbove before mark.num mark.den
  first_above None a mark marks floor h = tt
  first_above (Some old) a mark marks floor h =
      by_lt_z (old.num *ℤ mark.den) (mark.num *ℤ old.den) (λ l. l) (λ le. absurd (clash le)) where
        too_large : IsWithin mark.members a → ⊥
        too_large inside =
            let k = size_within mark.members a (h.1.minimiser.places ∙ sym h.2.minimiser.places)
            inside in
            let l = h.3 in
            omega (arith, k, l)

        clash : (mark.num *ℤ old.den) ≤ℤ (old.num *ℤ mark.den) → ⊥
        clash le = by_lt_z (mark.num *ℤ old.den) (old.num *ℤ mark.den)
            (λ l. too_large (slopes_nest terms n sizes fit sized ones mark.num mark.den old.num
            old.den
            mark.members a h.0 floor.0 l h.1.minimiser floor.1.minimiser))
            (λ ge. too_large (floor.1.within mark.members
            (same_slope terms n sizes mark.num mark.den old.num old.den mark.members h.0 floor.0
            (omega (arith, ints, le, ge)) h.1.minimiser)))

  floor_den : (before : Option Mark) (a : List Bool) → IsFloor terms n sizes before a
      → (p q p' q' : ℤ) → pos 1 ≤ℤ q → pos 1 ≤ℤ q' → IsAbove before p q → IsLowerSlope p q p' q'
      → IsAbove before p' q'
  floor_den None a floor p q p' q' lq lq' above lower = tt
  floor_den (Some old) a floor p q p' q' lq lq' above lower =
      slopes_trans old.num old.den p q p' q' floor.0 lq lq' above lower

  above_same : (before : Option Mark) (a : List Bool) → IsFloor terms n sizes before a
      → (p q p' q' : ℤ) → pos 1 ≤ℤ q → pos 1 ≤ℤ q' → IsAbove before p q → IsSameSlope p q p' q'
      → IsAbove before p' q'
  above_same None a floor p q p' q' lq lq' above same = tt
  above_same (Some old) a floor p q p' q' lq lq' above same =
      lower_same old.num old.den p q p' q' floor.0 lq lq' above same

  den_at : (a : List Bool) (marks : List Mark) → IsChain terms n sizes a marks → (i : ℕ)
      → i < length marks → pos 1 ≤ℤ (mark_at marks i).den
  den_at a [] h i l = absurd (omega arith)
  den_at a (m ∷ marks) h zero l = h.0
  den_at a (m ∷ marks) h (suc i) l = den_at m.members marks h.4 i (omega arith)

  all_above : (before : Option Mark) (a : List Bool) (marks : List Mark)
      → IsFloor terms n sizes before a → IsChain terms n sizes a marks → (i : ℕ) → i < length marks
      → IsAbove before (mark_at marks i).num (mark_at marks i).den
  all_above before a [] floor h i l = absurd (omega arith)
  all_above before a (m ∷ marks) floor h zero l = first_above before a m marks floor h
  all_above before a (m ∷ marks) floor h (suc i) l =
      let rest : i < length marks = omega arith in
      floor_den before a floor m.num m.den (mark_at marks i).num (mark_at marks i).den h.0
      (den_at m.members marks h.4 i rest) (first_above before a m marks floor h)
      (all_above (Some m) m.members marks (h.0, h.1) h.4 i rest)

  ascends : (a : List Bool) (marks : List Mark) → IsChain terms n sizes a marks → (i j : ℕ) → i < j
      → j < length marks
      → IsLowerSlope (mark_at marks i).num (mark_at marks i).den (mark_at marks j).num
      (mark_at marks j).den
  ascends a [] h i j ij l = absurd (omega arith)
  ascends a (m ∷ marks) h i zero ij l = absurd (omega arith)
  ascends a (m ∷ marks) h zero (suc j) ij l =
      all_above (Some m) m.members marks (h.0, h.1) h.4 j (omega arith)
  ascends a (m ∷ marks) h (suc i) (suc j) ij l =
      ascends m.members marks h.4 i j (omega arith) (omega arith)

  sound_at : (a : List Bool) (marks : List Mark) → IsChain terms n sizes a marks → (i : ℕ)
      → i < length marks → IsBreakpoint terms n sizes (mark_at marks i).num (mark_at marks i).den
      (mark_at marks i).members
  sound_at a [] h i l = absurd (omega arith)
  sound_at a (m ∷ marks) h zero l =
      record {
        greatest = h.1;
        another = (
          a,
          h.2.minimiser,
          λ e. let f = ap size e in let k = h.3 in omega (arith, f, k),
        );
      }
  sound_at a (m ∷ marks) h (suc i) l = sound_at m.members marks h.4 i (omega arith)

  -- a breakpoint with its place in a list of marks
  abbrev Found : List Mark → ℤ → ℤ → List Bool → Type 0
  Found marks p q s = (i : ℕ) × (i < length marks)
      × IsSameSlope p q (mark_at marks i).num (mark_at marks i).den
      × ((mark_at marks i).members ≡ s)

  module _ (p q : ℤ) (s t : List Bool) (one : pos 1 ≤ℤ q)
      (great : IsGreatest terms n q (sized_shift sizes p) s)
      (other : IsMinimiser terms n q (sized_shift sizes p) t) (ne : t ≢ s) where
    find : (before : List Bool) (marks : List Mark) → IsWithin before t
        → IsChain terms n sizes before marks → Found marks p q s
    find before [] inside chain =
        absurd (ne (same_sets t s (other.places ∙ sym great.minimiser.places)
        (λ e l. great.within t other e)
        (λ e l has. inside e (rw chain (Has-whole n e (rw (← other.places) l))))))
    find before (m ∷ marks) inside (den, greatest, least, more, chain) =
        by_order (by_lt_z (p *ℤ m.den) (m.num *ℤ q) (λ l. inl l) (λ l. inr l))
        (λ below. find m.members marks below chain) where
          next : Found marks p q s → Found (m ∷ marks) p q s
          next (i, l, same, e) = (suc i, omega arith, same, e)

          by_order : ((p *ℤ m.den) <ℤ (m.num *ℤ q)) ⊎ ((m.num *ℤ q) ≤ℤ (p *ℤ m.den))
              → (IsWithin m.members t → Found marks p q s) → Found (m ∷ marks) p q s
          by_order (inl lower) rest =
              let inside_s : IsWithin s before = slopes_nest terms n sizes fit sized ones p q m.num
              m.den s before one den lower great.minimiser least.minimiser in
              absurd (ne (same_sets t s (other.places ∙ sym great.minimiser.places)
              (λ e l. great.within t other e) (λ e l has. inside e (inside_s e has))))
          by_order (inr ge) rest = by_lt_z (m.num *ℤ q) (p *ℤ m.den)
              (λ above. next
              (rest (slopes_nest terms n sizes fit sized ones m.num m.den p q m.members t den one
              above greatest.minimiser other)))
              (λ le. let same : (p *ℤ m.den) ≡ (m.num *ℤ q) = omega (arith, ints, ge, le) in (
                0,
                omega arith,
                same,
                same_greatest terms n m.den (sized_shift sizes m.num) m.members s
                    greatest (greatest_same_slope terms n sizes p q m.num m.den s one den same
                    great),
              ))

  -- a chain in lowest terms is all breakpoints in order
  pub breakpoints_of_chain : (marks : List Mark) → IsChain terms n sizes (empty_set n) marks
      → AreLowest marks → AreBreakpoints terms n sizes marks
  breakpoints_of_chain marks h low =
      record {
        lowest = low;
        ascending = ascends (empty_set n) marks h;
        sound = sound_at (empty_set n) marks h;
        complete = complete;
      } where
        complete : (p q : ℤ) (s : List Bool) → IsLowest p q → IsBreakpoint terms n sizes p q s
            → (i : ℕ)
            × (i < length marks) × (mark_at marks i ≡ record { num = p; den = q; members = s })
        complete p q s lowest b =
            let (t, other, ne) = b.another in
            let (i, l, same, e) = find p q s t lowest.positive b.greatest other ne (empty_set n)
            marks
            (λ e has. absurd (none_in_empty n e has)) h in
            let (ep, eq) = lowest_unique p q (mark_at marks i).num (mark_at marks i).den lowest
            (low i l) same in
            (i, l, mark_is (mark_at marks i) p q s (sym ep) (sym eq) e)

  -- ---- a list of all breakpoints is a chain

  -- all breakpoints above the mark before, in ascending order
  record AreAllAbove (before : Option Mark) (marks : List Mark) : Type 0 where
    lowest : AreLowest marks
    ascending : (i j : ℕ) → i < j → j < length marks
        → IsLowerSlope (mark_at marks i).num (mark_at marks i).den (mark_at marks j).num
        (mark_at marks j).den
    sound : (i : ℕ) → i < length marks
        → IsBreakpoint terms n sizes (mark_at marks i).num (mark_at marks i).den
        (mark_at marks i).members
    above : (i : ℕ) → i < length marks → IsAbove before (mark_at marks i).num (mark_at marks i).den
    complete : (p q : ℤ) (s : List Bool) → IsLowest p q → IsAbove before p q
        → IsBreakpoint terms n sizes p q s → (i : ℕ) × (i < length marks)
        × (mark_at marks i ≡ record { num = p; den = q; members = s })

  -- the next breakpoint, in lowest terms
  record Next (before : Option Mark) (a : List Bool) : Type 0 where
    num : ℤ
    den : ℤ
    members : List Bool
    lowest : IsLowest num den
    above : IsAbove before num den
    least : IsLeast terms n den (sized_shift sizes num) a
    breaks : IsBreakpoint terms n sizes num den members
    larger : size a < size members

  reduced : (before : Option Mark) (a : List Bool) → IsFloor terms n sizes before a
      → IsNext terms n sizes before a → Next before a
  reduced before a floor x =
      let (p, q, low, same) = lowest_exists x.num x.den x.positive in
      let least = least_same_slope terms n sizes x.num x.den p q a x.positive low.positive same
      x.least in
      let k = x.larger in
      record {
        num = p;
        den = q;
        members = x.members;
        lowest = low;
        above = above_same before a floor x.num x.den p q x.positive low.positive x.above same;
        least = least;
        breaks = record {
          greatest = greatest_same_slope terms n sizes x.num x.den p q x.members
              x.positive low.positive same x.greatest;
          another = (a, least.minimiser, λ e. let f = ap size e in omega (arith, f, k));
        };
        larger = x.larger;
      }

  -- at a breakpoint not all minimisers lie between the same sets
  not_only : (p q : ℤ) (s a : List Bool) → IsBreakpoint terms n sizes p q s → length a ≡ n
      → ((t : List Bool) → IsMinimiser terms n q (sized_shift sizes p) t → IsWithin a t)
      → ((t : List Bool) → IsMinimiser terms n q (sized_shift sizes p) t → IsWithin t a) → ⊥
  not_only p q s a b la up' down' =
      let (t, other, ne) = b.another in
      let one = same_sets t a (other.places ∙ sym la) (λ e l. down' t other e)
      (λ e l. up' t other e) in
      let two = same_sets s a (b.greatest.minimiser.places ∙ sym la)
      (λ e l. down' s b.greatest.minimiser e) (λ e l. up' s b.greatest.minimiser e) in
      ne (one ∙ sym two)

  chain_from : (marks : List Mark) (before : Option Mark) (a : List Bool)
      → IsFloor terms n sizes before a → AreAllAbove before marks → IsChain terms n sizes a marks
  chain_from [] before a floor all =
      at (size_grows a (whole_set n)
      (floor_places terms n sizes fit sized ones before a floor ∙ sym (length-replicate n true))
      (within_whole n a (floor_places terms n sizes fit sized ones before a floor))) where
        at : (a ≡ whole_set n) ⊎ (size a < size (whole_set n)) → a ≡ whole_set n
        at (inl e) = e
        at (inr l) =
            let x = reduced before a floor
            (next_exists terms n sizes fit sized ones before a floor
            (λ e. let f = ap size e in omega (arith, f, l))) in
            let (i, none, e) = all.complete x.num x.den x.members x.lowest x.above x.breaks in
            absurd (omega (arith, none))
  chain_from (m ∷ marks) before a floor all =
      at (chain_from marks) (size_grows a (whole_set n) (la ∙ sym (length-replicate n true))
      (within_whole n a la)) where
        la : length a ≡ n
        la = floor_places terms n sizes fit sized ones before a floor

        low : IsLowest m.num m.den
        low = all.lowest 0 (omega arith)

        breaks : IsBreakpoint terms n sizes m.num m.den m.members
        breaks = all.sound 0 (omega arith)

        over : IsAbove before m.num m.den
        over = all.above 0 (omega arith)

        has_a : (t : List Bool) → IsMinimiser terms n m.den (sized_shift sizes m.num) t
            → IsWithin a t
        has_a t h = floor_within terms n sizes fit sized ones before a floor m.num m.den t
            low.positive
            over h

        rest : AreAllAbove (Some m) marks
        rest = record {
          lowest = λ i l. all.lowest (suc i) (omega arith);
          ascending = λ i j ij l. all.ascending (suc i) (suc j) (omega arith) (omega arith);
          sound = λ i l. all.sound (suc i) (omega arith);
          above = λ i l. all.ascending 0 (suc i) (omega arith) (omega arith);
          complete = complete;
        } where
          complete : (p q : ℤ) (s : List Bool) → IsLowest p q → IsAbove (Some m) p q
              → IsBreakpoint terms n sizes p q s → (i : ℕ) × (i < length marks)
              × (mark_at marks i ≡ record { num = p; den = q; members = s })
          complete p q s lowest above b =
              here (all.complete p q s lowest
              (floor_den before a floor m.num m.den p q low.positive lowest.positive over above)
              b) where
                here : (i : ℕ) × (i < length (m ∷ marks))
                    × (mark_at (m ∷ marks) i ≡ record { num = p; den = q; members = s }) → (i : ℕ)
                    × (i < length marks)
                    × (mark_at marks i ≡ record { num = p; den = q; members = s })
                here (i, l, e) = by i l e where
                  by : (i : ℕ) → i < length (m ∷ marks)
                      → mark_at (m ∷ marks) i ≡ record { num = p; den = q; members = s } → (i : ℕ)
                      × (i < length marks)
                      × (mark_at marks i ≡ record { num = p; den = q; members = s })
                  by zero l e =
                      let ep : m.num ≡ p = ap (λ z. z.num) e in
                      let eq : m.den ≡ q = ap (λ z. z.den) e in
                      absurd (not_lower_itself p q (rw (ep, eq) at above))
                  by (suc i) l e = (i, omega arith, e)

        at : ((before : Option Mark) (a : List Bool) → IsFloor terms n sizes before a
            → AreAllAbove before marks → IsChain terms n sizes a marks) → (a ≡ whole_set n)
            ⊎ (size a < size (whole_set n)) → IsChain terms n sizes a (m ∷ marks)
        at next (inl e) = absurd (not_only m.num m.den m.members a breaks la has_a
            (λ t h. rw e (within_whole n t h.places)))
        at next (inr l) =
            from (reduced before a floor
            (next_exists terms n sizes fit sized ones before a floor
            (λ e. let f = ap size e in omega (arith, f, l)))) where
              from : Next before a → IsChain terms n sizes a (m ∷ marks)
              from x = place (all.complete x.num x.den x.members x.lowest x.above x.breaks) where
                by : (i : ℕ) → i < length (m ∷ marks)
                    → mark_at (m ∷ marks) i ≡ record {
                      num = x.num;
                      den = x.den;
                      members = x.members;
                    }
                    → IsChain terms n sizes a (m ∷ marks)
                by zero l e =
                    let same : m.num ≡ x.num = ap (λ z. z.num) e in
                    let same' : m.den ≡ x.den = ap (λ z. z.den) e in
                    let least : IsLeast terms n m.den (sized_shift sizes m.num) a = rw (same, same')
                    x.least in
                    let f = ap (λ (z : Mark). size z.members) e in
                    let k = x.larger in
                    let larger : size a < size m.members = omega (arith, f, k) in (
                      low.positive,
                      breaks.greatest,
                      least,
                      larger,
                      next (Some m) m.members (low.positive, breaks.greatest) rest,
                    )
                by (suc i) l e =
                    let lower = all.ascending 0 (suc i) (omega arith) l in
                    let ep : (mark_at marks i).num ≡ x.num = ap (λ z. z.num) e in
                    let eq : (mark_at marks i).den ≡ x.den = ap (λ z. z.den) e in
                    let lower' : IsLowerSlope m.num m.den x.num x.den = rw (ep, eq) at lower in
                    absurd (not_only m.num m.den m.members a breaks la has_a
                    (λ t h. slopes_nest terms n sizes fit sized ones m.num m.den x.num x.den t a
                    low.positive x.lowest.positive lower' h x.least.minimiser))

                place : (i : ℕ) × (i < length (m ∷ marks))
                    × (mark_at (m ∷ marks) i ≡ record {
                      num = x.num;
                      den = x.den;
                      members = x.members;
                    })
                    → IsChain terms n sizes a (m ∷ marks)
                place (i, l, e) = by i l e

  -- all breakpoints in order are a chain
  pub chain_of_breakpoints : (marks : List Mark) → AreBreakpoints terms n sizes marks
      → IsChain terms n sizes (empty_set n) marks
  chain_of_breakpoints marks b =
      chain_from marks None (empty_set n) refl
      (record {
        lowest = b.lowest;
        ascending = b.ascending;
        sound = b.sound;
        above = λ i l. tt;
        complete = λ p q s low above br. b.complete p q s low br;
      })

  -- a list of marks in lowest terms is all breakpoints in ascending order exactly where it is a
  -- chain
  pub chain_exact : (marks : List Mark)
      → (IsChain terms n sizes (empty_set n) marks × AreLowest marks)
      ↔ AreBreakpoints terms n sizes marks
  chain_exact marks = (
    (λ (h, low). breakpoints_of_chain marks h low),
    (λ b. (chain_of_breakpoints marks b, b.lowest)),
  )

  -- there are at most n breakpoints
  pub few_breakpoints : (marks : List Mark) → AreBreakpoints terms n sizes marks → length marks ≤ n
  few_breakpoints marks b =
      let c = chain_count terms n sizes (empty_set n) marks (chain_of_breakpoints marks b) in
      let z = size-empty n in
      omega (arith, c, z)
