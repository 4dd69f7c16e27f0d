-- The sets between which breakpoints are looked for: each is empty, whole, or the least minimiser
-- at some slope. At the slope at which two of them are worth as much no minimiser leaves the higher
-- one, so the least one there is the lower set, with the higher one as the greatest, or it lies
-- strictly between.
use Rattle.std.proofs.Common.{◌≡◌, ◌≢◌, ◌⊎◌, ℕ, Bool, List, [], ◌∷◌, length, ℤ, pos, ◌≤ℤ◌, ◌<ℤ◌, Option, Some, refl, sym, ap, ◌∙◌, arith, inl, inr, ⊎_elim}
use Rattle.std.proofs.lemmas.Int.{ints, by_lt_z}
use Rattle.sfm_spec.specs.Sets.{size, whole_set, IsWithin}
use Rattle.sfm_spec.specs.Families.{Meaning, AreTerms, IsAllowed, IsMinimiser, IsLeast, IsGreatest, shifted_at, sized_shift}
use Rattle.sfm_spec.specs.Laws.{Mark}
use Rattle.sfm_spec.specs.Search.{IsCeiling, IsChainTo, IsEven, IsFloor}
use Rattle.sfm_spec.proofs.Sizes.{AreSizes, size_grows, size_within}
use Rattle.sfm_spec.proofs.Lattice.{also_minimiser}
use Rattle.sfm_spec.proofs.Nest.{slopes_nest}
use Rattle.sfm_spec.proofs.Search.{even_is_lower, floor_allowed, floor_places, floor_within, turn_above, turn_goes_on, whole_ceiling, within_whole}
use Rattle.sfm_slope.specs.Gaps.{IsBegun, IsGap}

module _ (terms : List Meaning) (n : ℕ) (sizes : List ℤ) (fit : AreTerms n terms)
    (sized : length sizes ≡ n) (ones : AreSizes sizes) where
  -- the last set of a chain is the empty set or the set of a breakpoint
  pub chain_begun : (before : Option Mark) (a : List Bool) (marks : List Mark) (last : List Bool)
      → IsFloor terms n sizes before a → IsChainTo terms n sizes a marks last
      → IsBegun terms n sizes last
  chain_begun before a [] last floor h = (before, rw (sym h) floor)
  chain_begun before a (m ∷ marks) last floor h =
      chain_begun (Some m) m.members marks last (h.0, h.1) h.4

  -- the whole set, or the least minimiser at a slope, is the larger set of the search from each
  -- allowed set within
  pub gap_ceiling : (a t : List Bool) → length a ≡ n → IsAllowed terms a → IsGap terms n sizes a t
      → IsCeiling terms n sizes a t
  gap_ceiling a t la allowed gap =
      record {
        places = gap.places;
        allowed = gap.allowed;
        within = gap.within;
        larger = gap.larger;
        at_slope = at gap.at_slope;
      } where
        at : (t ≡ whole_set n) ⊎ ((p q : ℤ) × (pos 1 ≤ℤ q)
            × IsLeast terms n q (sized_shift sizes p) t)
            → (t ≡ whole_set n) ⊎ ((p q : ℤ) × (pos 1 ≤ℤ q)
            × IsMinimiser terms n q (sized_shift sizes p) t
            × (shifted_at terms q (sized_shift sizes p) t <ℤ shifted_at terms q
            (sized_shift sizes p) a))
        at (inl e) = inl e
        at (inr (p, q, lq, least)) = inr (
          p,
          q,
          lq,
          least.minimiser,
          by_lt_z (shifted_at terms q (sized_shift sizes p) t)
              (shifted_at terms q (sized_shift sizes p) a) (λ l. l) (λ le. clash le),
        ) where
          clash : shifted_at terms q (sized_shift sizes p) a ≤ℤ shifted_at terms q
              (sized_shift sizes p)
              t → shifted_at terms q (sized_shift sizes p) t <ℤ shifted_at terms q
              (sized_shift sizes p)
              a
          clash le =
              let m : IsMinimiser terms n q (sized_shift sizes p) a = also_minimiser terms n q
              (sized_shift sizes p) (omega (arith, ints, lq)) fit t a least.minimiser la allowed
              le in
              let k = size_within t a (gap.places ∙ sym la) (least.within a m) in
              let l = gap.larger in
              absurd (omega (arith, k, l))

  -- the empty set and the whole one, where there is a place
  pub whole_gap : (a : List Bool) → IsBegun terms n sizes a → a ≢ whole_set n
      → IsGap terms n sizes a (whole_set n)
  whole_gap a (before, floor) ne =
      let c = whole_ceiling terms n sizes fit sized ones before a floor ne in
      record {
        places = c.places;
        allowed = c.allowed;
        within = c.within;
        larger = c.larger;
        at_slope = inl refl;
      }

  module _ (a t : List Bool) (begun : IsBegun terms n sizes a) (gap : IsGap terms n sizes a t)
      (p q : ℤ) (lq : pos 1 ≤ℤ q) (even : IsEven terms sizes p q a t) where
    la : length a ≡ n
    la = floor_places terms n sizes fit sized ones begun.0 a begun.1

    ceiling : IsCeiling terms n sizes a t
    ceiling = gap_ceiling a t la (floor_allowed terms n sizes fit sized ones begun.0 a begun.1) gap

    -- no minimiser at the slope leaves the larger set
    below_ceiling : (y : List Bool) → IsMinimiser terms n q (sized_shift sizes p) y → IsWithin y t
    below_ceiling y m = at ceiling.at_slope where
      at : (t ≡ whole_set n) ⊎ ((p q : ℤ) × (pos 1 ≤ℤ q)
          × IsMinimiser terms n q (sized_shift sizes p) t
          × (shifted_at terms q (sized_shift sizes p) t <ℤ shifted_at terms q (sized_shift sizes p)
          a)) → IsWithin y t
      at (inl e) = rw e (within_whole n y m.places)
      at (inr (p', q', lq', m', less)) =
          slopes_nest terms n sizes fit sized ones p q p' q' y t lq lq'
          (even_is_lower terms n sizes fit sized ones p q p' q' a t lq lq' la ceiling.places
          ceiling.within ceiling.larger even less) m m'

    -- where the first set is the least minimiser, the larger one is the greatest
    pub gap_greatest : IsLeast terms n q (sized_shift sizes p) a
        → IsGreatest terms n q (sized_shift sizes p) t
    gap_greatest least = record {
      minimiser = also_minimiser terms n q (sized_shift sizes p) (omega (arith, ints, lq)) fit a t
          least.minimiser ceiling.places ceiling.allowed (omega (arith, ints, even));
      within = below_ceiling;
    }

    -- the first set is the least minimiser where that has as many places
    pub gap_same : (y : List Bool) → IsLeast terms n q (sized_shift sizes p) y → size y ≡ size a
        → y ≡ a
    gap_same y least same =
        let inside = floor_within terms n sizes fit sized ones begun.0 a begun.1 p q y lq
        (turn_above terms n sizes fit sized ones begun.0 a t begun.1 ceiling p q lq even)
        least.minimiser in
        ⊎_elim (λ e. sym e) (λ l. absurd (omega (arith, l, same)))
        (size_grows a y (la ∙ sym least.minimiser.places) inside)

    -- and otherwise it lies strictly between
    pub gap_between : (y : List Bool) → IsLeast terms n q (sized_shift sizes p) y → size y ≢ size a
        → IsGap terms n sizes a y × IsGap terms n sizes y t
    gap_between y least ne =
        let (c, smaller) = turn_goes_on terms n sizes fit sized ones begun.0 a t begun.1 ceiling p q
        lq even y least (λ e. ne (ap size e)) in (
          record {
            places = c.places;
            allowed = c.allowed;
            within = c.within;
            larger = c.larger;
            at_slope = inr (p, q, lq, least);
          },
          record {
            places = gap.places;
            allowed = gap.allowed;
            within = below_ceiling y least.minimiser;
            larger = smaller;
            at_slope = gap.at_slope;
          },
        )
