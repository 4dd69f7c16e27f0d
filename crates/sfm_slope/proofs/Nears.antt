-- The least minimiser at a slope, or a larger one than some set at a slope below.
use Rattle.std.proofs.Common.{◌≡◌, ◌⊎◌, ℕ, ◌<◌, Bool, List, length, ℤ, pos, ◌*ℤ◌, ◌≤ℤ◌, Option, Some, None, sym, ◌∙◌, arith, inl, inr}
use Rattle.std.proofs.lemmas.Int.{ints, by_lt_z}
use Rattle.sfm_spec.specs.Sets.{size, IsWithin}
use Rattle.sfm_spec.specs.Slopes.{IsSameSlope}
use Rattle.sfm_spec.specs.Families.{Meaning, AreTerms, IsMinimiser, IsLeast, sized_shift}
use Rattle.sfm_spec.specs.Laws.{Mark}
use Rattle.sfm_spec.specs.Search.{IsEven, IsFloor}
use Rattle.sfm_spec.proofs.Lattice.{least_exists}
use Rattle.sfm_spec.proofs.Nest.{least_same_slope, same_slope, slopes_nest}
use Rattle.sfm_spec.proofs.Scaled.{times-comm}
use Rattle.sfm_spec.proofs.Search.{floor_within}
use Rattle.sfm_spec.proofs.Sizes.{AreSizes, size_within}
use Rattle.sfm_slope.specs.Gaps.{IsBegun, IsGap}
use Rattle.sfm_slope.specs.Nears.{IsLargerBelow, IsLeastNear}
use Rattle.sfm_slope.proofs.Gaps.{gap_between}

-- the least minimiser at so many 64ths, where these are the slope, or are at most the slope and the
-- set is larger
pub near_part : (terms : List Meaning) (n : ℕ) (sizes : List ℤ) (p q part : ℤ) (most : ℕ)
    (s : List Bool)
    → pos 1 ≤ℤ q → (q *ℤ part) ≤ℤ (p *ℤ pos 64)
    → IsLeast terms n (pos 64) (sized_shift sizes part) s
    → IsSameSlope part (pos 64) p q ⊎ (most < size s) → IsLeastNear terms n sizes p q most s
near_part terms n sizes p q part most s lq low least (inl same) =
    inl (least_same_slope terms n sizes part (pos 64) p q s (omega (arith, ints)) lq same least)
near_part terms n sizes p q part most s lq low least (inr more) = inr (record {
  num = part;
  den = pos 64;
  positive = omega (arith, ints);
  below = rw (times-comm part q) low;
  least = least;
  larger = more;
})

module _ (terms : List Meaning) (n : ℕ) (sizes : List ℤ) (fit : AreTerms n terms)
    (sized : length sizes ≡ n) (ones : AreSizes sizes) where
  -- the least minimiser at a slope that is at most another lies within each minimiser at that one
  within_higher : (p q p' q' : ℤ) (s t : List Bool) → pos 1 ≤ℤ q → pos 1 ≤ℤ q'
      → (p *ℤ q') ≤ℤ (p' *ℤ q)
      → IsLeast terms n q (sized_shift sizes p) s → IsMinimiser terms n q' (sized_shift sizes p') t
      → IsWithin s t
  within_higher p q p' q' s t lq lq' le hs ht =
      by_lt_z (p *ℤ q') (p' *ℤ q)
      (λ l. slopes_nest terms n sizes fit sized ones p q p' q' s t lq lq' l hs.minimiser ht)
      (λ ge. let same : IsSameSlope p' q' p q = omega (arith, ints, le, ge) in
      hs.within t (same_slope terms n sizes p' q' p q t lq' lq same ht))

  -- the first set lies within the least minimiser at a slope where that is larger
  floor_within_larger : (before : Option Mark) (a : List Bool) → IsFloor terms n sizes before a
      → (p q : ℤ) (y : List Bool) → pos 1 ≤ℤ q
      → IsLeast terms n q (sized_shift sizes p) y → size a < size y → IsWithin a y
  floor_within_larger None a floor p q y lq least more =
      floor_within terms n sizes fit sized ones None a floor p q y lq tt least.minimiser
  floor_within_larger (Some mark) a floor p q y lq least more =
      by_lt_z (mark.num *ℤ q) (p *ℤ mark.den)
      (λ l. floor_within terms n sizes fit sized ones (Some mark) a floor p q y lq l
      least.minimiser)
      (λ ge.
      let inside = within_higher p q mark.num mark.den y a lq floor.0 ge least floor.1.minimiser in
      let k = size_within y a (least.minimiser.places ∙ sym floor.1.minimiser.places) inside in
      absurd (omega (arith, k, more)))

  module _ (a t : List Bool) (begun : IsBegun terms n sizes a) (gap : IsGap terms n sizes a t)
      (p q : ℤ) (lq : pos 1 ≤ℤ q) (even : IsEven terms sizes p q a t) where
    -- the least minimiser at a lower slope lies strictly between where it is larger than the first
    -- set
    pub gap_larger : (y : List Bool) → IsLargerBelow terms n sizes p q (size a) y
        → IsGap terms n sizes a y × IsGap terms n sizes y t
    gap_larger y h =
        let (m, least) = least_exists terms n q (sized_shift sizes p) (omega (arith, ints, lq))
        fit in
        let inside = within_higher h.num h.den p q y m h.positive lq h.below h.least
        least.minimiser in
        let k = size_within y m (h.least.minimiser.places ∙ sym least.minimiser.places) inside in
        let more = h.larger in
        let two = gap_between terms n sizes fit sized ones a t begun gap p q lq even m least
        (λ e. absurd (omega (arith, k, more, e))) in
        let smaller = two.1.larger in (
          record {
            places = h.least.minimiser.places;
            allowed = h.least.minimiser.allowed;
            within = floor_within_larger begun.0 a begun.1 h.num h.den y h.positive h.least more;
            larger = more;
            at_slope = inr (h.num, h.den, h.positive, h.least);
          },
          record {
            places = gap.places;
            allowed = gap.allowed;
            within = λ e has. two.1.within e (inside e has);
            larger = omega (arith, k, smaller);
            at_slope = gap.at_slope;
          },
        )
