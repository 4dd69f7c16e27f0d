-- What a turn finds, by the slope at which both sets are worth as much and the least minimiser
-- there.
use Rattle.std.proofs.Common.{◌≡◌, ◌≢◌, ℕ, ◌^◌, Bool, List, length, ℤ, pos, ◌-ℤ◌, ◌≤ℤ◌, ◌<ℤ◌, refl, sym, subst, ◌∙◌, arith, ⊎_elim}
use Rattle.std.proofs.lemmas.Int.{ints}
use Rattle.sfm_spec.specs.Sets.{size}
use Rattle.sfm_spec.specs.Slopes.{IsSameSlope}
use Rattle.sfm_spec.specs.Families.{Meaning, AreTerms, IsLeast, IsGreatest, sized_shift}
use Rattle.sfm_spec.proofs.Search.{floor_places}
use Rattle.sfm_base.specs.declared.slope.Slope.{Slope}
use Rattle.sfm_sizes.specs.Sizes.{AreElementSizes}
use Rattle.sfm_sizes.proofs.Weighing.{weight-bounds}
use Rattle.sfm_slope.specs.declared.worth.Worth.{Worth}
use Rattle.sfm_slope.specs.Gaps.{IsBegun, IsGap}
use Rattle.sfm_slope.specs.Nears.{IsLargerBelow, IsLeastNear}
use Rattle.sfm_slope.specs.Points.{IsInRange}
use Rattle.sfm_slope.specs.Worths.{IsWorth}
use Rattle.sfm_slope.proofs.Gaps.{gap_between, gap_greatest, gap_same}
use Rattle.sfm_slope.proofs.Nears.{gap_larger}
use Rattle.sfm_slope.proofs.Ratios.{IsRatio, gap_heavier, ratio_of_worths}

module _ {terms : List Meaning} {n : ℕ} {sizes : List ℤ} (fit : AreTerms n terms)
    (are : AreElementSizes n sizes) {low high : Worth} (wl : IsWorth terms sizes low)
    (wh : IsWorth terms sizes high)
    (begun : IsBegun terms n sizes low.set) (gap : IsGap terms n sizes low.set high.set) where
  low_places : length low.set ≡ n
  low_places = floor_places terms n sizes fit are.places are.positive begun.0 low.set begun.1

  -- both weights are small, and that of the larger set is larger
  pub turn_weights : (pos 0 ≤ℤ low.weight) × (low.weight <ℤ high.weight)
      × (high.weight ≤ℤ pos (10 ^ 6))
  turn_weights =
      let a = weight-bounds low.set sizes are.positive in
      let t = weight-bounds high.set sizes are.positive in
      let most = are.small in
      let more = gap_heavier terms n sizes low high are.places are.positive low_places wl wh gap in
      let wa = wl.weight in
      let wt = wh.weight in
      (omega (arith, ints, a.0, wa), more, omega (arith, ints, t.1, wt, most))

  module _ (slope : Slope)
      (same : IsSameSlope (high.sum -ℤ low.sum) (high.weight -ℤ low.weight) slope.num
      slope.den) where
    pub turn_ratio : IsRatio terms n sizes low.set high.set slope.num slope.den
    turn_ratio = ratio_of_worths terms n sizes low high slope.num slope.den fit are.places
        are.positive
        low_places wl wh gap slope.lowest same

    module _ {found : List Bool}
        (near : IsLeastNear terms n sizes slope.num slope.den low.size found) where
      -- as large as the lower set, it is the least minimiser
      least_here : size found ≡ low.size → IsLeast terms n slope.den (sized_shift sizes slope.num)
          found
      least_here e = ⊎_elim (λ least. least) (λ h. let l = h.larger in absurd (omega (arith, l, e)))
          near

      pub turn_next : size found ≡ low.size
          → IsLeast terms n slope.den (sized_shift sizes slope.num) low.set
          × IsGreatest terms n slope.den (sized_shift sizes slope.num) high.set
          × (high.set ≡ high.set) × IsInRange sizes (record { slope = slope; set = high.set })
      turn_next e =
          let r = turn_ratio in
          let is : found ≡ low.set
          = gap_same terms n sizes fit are.places are.positive low.set high.set begun gap slope.num
          slope.den
          r.positive r.even found (least_here e) (e ∙ wl.size) in
          let here : IsLeast terms n slope.den (sized_shift sizes slope.num) low.set
          = subst (λ s. IsLeast terms n slope.den (sized_shift sizes slope.num) s) is
          (least_here e) in (
            here,
            gap_greatest terms n sizes fit are.places are.positive low.set high.set begun gap
                slope.num
                slope.den r.positive r.even here,
            refl,
            record { small = r.small; few = r.few },
          )

      pub turn_between : size found ≢ low.size
          → IsGap terms n sizes low.set found × IsGap terms n sizes found high.set
      turn_between ne =
          let r = turn_ratio in
          ⊎_elim
          (λ least. gap_between terms n sizes fit are.places are.positive low.set high.set begun gap
          slope.num
          slope.den r.positive r.even found least (λ e. ne (e ∙ sym wl.size)))
          (λ h. gap_larger terms n sizes fit are.places are.positive low.set high.set begun gap
          slope.num
          slope.den r.positive r.even found
          (subst (λ k. IsLargerBelow terms n sizes slope.num slope.den k found) wl.size h))
          near
