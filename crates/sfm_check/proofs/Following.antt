-- Slopes that are each the next one, up to the whole set, are all breakpoints; and the first that
-- is not the next one differs from the breakpoint that is due, or stands where none is.
use Rattle.std.proofs.Common.{◌≡◌, ◌≢◌, ◌⊎◌, inl, inr, ℕ, zero, suc, ◌<◌, ◌≤◌, Bool, List, [], ◌∷◌, ◌++◌, length, take, ℤ, refl, sym, ap, ◌∙◌, arith, subst}
use Rattle.sfm_spec.specs.Sets.{empty_set, size, whole_set}
use Rattle.sfm_spec.specs.Families.{Meaning, AreTerms, IsLeast, IsGreatest, sized_shift}
use Rattle.sfm_spec.specs.Laws.{AreBreakpoints, IsChain, Mark}
use Rattle.sfm_spec.specs.Search.{AreLowest, mark_at}
use Rattle.sfm_spec.proofs.Chain.{breakpoints_of_chain, chain_of_breakpoints}
use Rattle.sfm_spec.proofs.Breakpoints.{next_exactly, none_left_exactly}
use Rattle.sfm_sizes.specs.Sizes.{AreElementSizes}
use Rattle.sfm_check.specs.Findings.{IsFirstWrongSlope, IsFullChain, IsNextSlope, set_before}

module _ (terms : List Meaning) (n : ℕ) (sizes : List ℤ) (fit : AreTerms n terms)
    (sized : AreElementSizes n sizes) where
  -- the next slope, in the words of chains
  next_in : (a : List Bool) (m : Mark) → IsNextSlope terms n sizes a m
      → IsLeast terms n m.den (sized_shift sizes m.num) a
      × IsGreatest terms n m.den (sized_shift sizes m.num) m.members × (size a < size m.members)
  next_in a m h = (h.least, h.greatest, h.larger)

  next_out : (a : List Bool) (m : Mark) → IsLeast terms n m.den (sized_shift sizes m.num) a
      × IsGreatest terms n m.den (sized_shift sizes m.num) m.members × (size a < size m.members)
      → IsNextSlope terms n sizes a m
  next_out a m h = record { least = h.0; greatest = h.1; larger = h.2 }

  before_step : (a : List Bool) (m : Mark) (marks : List Mark) (k : ℕ)
      → set_before a (m ∷ marks) (suc k) ≡ set_before m.members marks k
  before_step a m marks zero = refl
  before_step a m marks (suc k) = refl

  -- each slope but the first is the next one of those behind the first
  rest_next : (a : List Bool) (m : Mark) (marks : List Mark) (j : ℕ)
      → IsNextSlope terms n sizes (set_before a (m ∷ marks) (suc j)) (mark_at (m ∷ marks) (suc j))
      → IsNextSlope terms n sizes (set_before m.members marks j) (mark_at marks j)
  rest_next a m marks j h = subst (λ z. IsNextSlope terms n sizes z (mark_at marks j))
      (before_step a m marks j) h

  -- ---- all slopes are right

  chain_by : (a : List Bool) (marks : List Mark) → AreLowest marks
      → ((k : ℕ) → k < length marks
      → IsNextSlope terms n sizes (set_before a marks k) (mark_at marks k))
      → set_before a marks (length marks) ≡ whole_set n → IsChain terms n sizes a marks
  chain_by a [] low each ends = ends
  chain_by a (m ∷ marks) low each ends =
      let h = next_in a m (each 0 (omega arith)) in (
        (low 0 (omega arith)).positive,
        h.1,
        h.0,
        h.2,
        chain_by m.members marks (λ i l. low (suc i) (omega arith))
            (λ k l. rest_next a m marks k (each (suc k) (omega arith)))
            (sym (before_step a m marks (length marks)) ∙ ends),
      )

  pub full_chain : (marks : List Mark) → AreLowest marks → IsFullChain terms n sizes marks
      → AreBreakpoints terms n sizes marks
  full_chain marks low h = breakpoints_of_chain terms n sizes fit sized.places sized.positive marks
      (chain_by (empty_set n) marks low h.each h.ends) low

  -- ---- the first slope that is not

  -- the marks of a chain are those that were found right, and then others
  pub record Follows (a : List Bool) (given due : List Mark) (k : ℕ) : Type 0 where
    pub rest : List Mark
    pub parts : due ≡ take k given ++ rest
    pub chain : IsChain terms n sizes (set_before a given k) rest
    pub low : AreLowest rest

  follows : (a : List Bool) (given due : List Mark) (k : ℕ) → IsChain terms n sizes a due
      → AreLowest due → AreLowest given → k ≤ length given
      → ((j : ℕ) → j < k → IsNextSlope terms n sizes (set_before a given j) (mark_at given j))
      → Follows a given due k
  follows a given due zero chain low lowest few right =
      record { rest = due; parts = refl; chain = chain; low = low }
  follows a [] due (suc k) chain low lowest few right = absurd (omega arith)
  follows a (g ∷ given) due (suc k) chain low lowest few right =
      at due chain low head (λ due' c l. follows g.members given due' k c l
      (λ i h. lowest (suc i) (omega arith)) (omega arith)
      (λ j h. rest_next a g given j (right (suc j) (omega arith)))) where
        head : (0 < length due)
            × (mark_at due 0 ≡ record { num = g.num; den = g.den; members = g.members })
        head = (next_exactly terms n sizes fit sized.places sized.positive a due g.num g.den
            g.members
            chain low (lowest 0 (omega arith))).1 (next_in a g (right 0 (omega arith)))

        at : (due : List Mark) → IsChain terms n sizes a due → AreLowest due → (0 < length due)
            × (mark_at due 0 ≡ record { num = g.num; den = g.den; members = g.members })
            → ((due' : List Mark) → IsChain terms n sizes g.members due' → AreLowest due'
            → Follows g.members given due' k) → Follows a (g ∷ given) due (suc k)
        at [] chain low (l, e) next = absurd (omega (arith, l))
        at (d ∷ due) chain low (l, e) next =
            let same : d.members ≡ g.members = ap (λ (z : Mark). z.members) e in
            let f = next due (subst (λ z. IsChain terms n sizes z due) same chain.4)
            (λ i h. low (suc i) (omega arith)) in
            record {
              rest = f.rest;
              parts = ap (λ z. z ∷ due) e ∙ ap (λ z. g ∷ z) f.parts;
              chain = subst (λ z. IsChain terms n sizes z f.rest) (sym (before_step a g given k))
                  f.chain;
              low = f.low;
            }

  pub record Departs (given due : List Mark) (k : ℕ) : Type 0 where
    pub rest : List Mark
    pub parts : due ≡ take k given ++ rest
    pub in_given : k ≤ length given
    pub departs : ((k < length given)
        × ((0 < length rest) × (mark_at rest 0 ≡ mark_at given k) → ⊥))
        ⊎ ((k ≡ length given) × (rest ≢ []))

  pub wrong_slope_departs : (given due : List Mark) (k : ℕ) → AreLowest given
      → AreBreakpoints terms n sizes due → IsFirstWrongSlope terms n sizes given k
      → Departs given due k
  wrong_slope_departs given due k lowest breaks w = at w.wrong where
    chain : IsChain terms n sizes (empty_set n) due
    chain = chain_of_breakpoints terms n sizes fit sized.places sized.positive due breaks

    at : ((k < length given) × (IsNextSlope terms n sizes (set_before (empty_set n) given k)
        (mark_at given k) → ⊥)) ⊎ ((k ≡ length given)
        × (set_before (empty_set n) given k ≢ whole_set n)) → Departs given due k
    at (inl (l, not_next)) =
        let f = follows (empty_set n) given due k chain breaks.lowest lowest (omega (arith, l))
        w.before in
        let g = mark_at given k in
        let exact = next_exactly terms n sizes fit sized.places sized.positive
        (set_before (empty_set n) given k) f.rest g.num g.den g.members f.chain f.low
        (lowest k l) in
        record {
          rest = f.rest;
          parts = f.parts;
          in_given = omega (arith, l);
          departs = inl (
            l,
            (λ (some, same). not_next
                (next_out (set_before (empty_set n) given k) g (exact.0 (some, same)))),
          );
        }
    at (inr (e, not_whole)) =
        let f = follows (empty_set n) given due k chain breaks.lowest lowest (omega (arith, e))
        w.before in
        record {
          rest = f.rest;
          parts = f.parts;
          in_given = omega (arith, e);
          departs = inr (
            e,
            (λ none.
                not_whole ((none_left_exactly terms n sizes fit sized.places sized.positive
                (set_before (empty_set n) given k) f.rest f.chain).0 none)),
          );
        }
