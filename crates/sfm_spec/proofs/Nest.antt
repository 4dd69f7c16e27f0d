-- Minimisers at a lower slope lie within those at a higher one; at the same slope they are the
-- same.
use Rattle.std.proofs.Common.{◌≡◌, ◌⊎◌, ℕ, Bool, List, length, ℤ, pos, ◌+ℤ◌, ◌-ℤ◌, ◌*ℤ◌, ◌≤ℤ◌, ◌<ℤ◌, sym, ap, ◌∙◌, arith, inl, inr}
use Rattle.std.proofs.lemmas.Int.{ints}
use Rattle.sfm_spec.specs.Sets.{union, intersection, sum_over, IsWithin}
use Rattle.sfm_spec.specs.Slopes.{IsSameSlope}
use Rattle.sfm_spec.specs.Families.{Meaning, AreTerms, IsAllowed, IsMinimiser, IsLeast, IsGreatest, sum_at, shifted_at, sized_shift}
use Rattle.sfm_spec.specs.Laws.{SlopesNest}
use Rattle.sfm_spec.proofs.Sums.{length-union, length-intersection, sum_over-modular_any}
use Rattle.sfm_spec.proofs.Sets.{in_first, same_sets}
use Rattle.sfm_spec.proofs.Scaled.{times-mono, times-sub, times-assoc, times-comm, times-cancel}
use Rattle.sfm_spec.proofs.Sizes.{AreSizes, weight_grows, within_by_intersection}
use Rattle.sfm_spec.proofs.Lattice.{sum-submodular}
use Rattle.sfm_spec.proofs.Slopes.{sum_over-sized, slope_clash}

module _ (terms : List Meaning) (sizes : List ℤ) (p q : ℤ) where
  abbrev worth : List Bool → ℤ
  worth s = shifted_at terms q (sized_shift sizes p) s

  -- q times the sum, less p for each unit of size
  pub shifted-sized : (s : List Bool) → worth s ≡ (q *ℤ sum_at terms s -ℤ p *ℤ sum_over s sizes)
  shifted-sized s = ap (λ y. q *ℤ sum_at terms s -ℤ y) (sum_over-sized s sizes p)

  -- ---- from one set to another

  module _ (s t : List Bool) where
    -- the rise of the sum, and that of the weight
    abbrev gain : ℤ
    gain = sum_at terms t -ℤ sum_at terms s

    abbrev load : ℤ
    load = sum_over t sizes -ℤ sum_over s sizes

    -- the shifted value rises by q times the one, less p times the other
    rise : (worth t -ℤ worth s) ≡ (q *ℤ gain -ℤ p *ℤ load)
    rise = omega (
      arith,
      ints,
      shifted-sized s,
      shifted-sized t,
      times-sub q (sum_at terms t) (sum_at terms s),
      times-sub p (sum_over t sizes) (sum_over s sizes),
    )

    -- it does not rise: the sum rises by at most p/q of the weight
    pub rises_slower : worth t ≤ℤ worth s → (q *ℤ gain) ≤ℤ (p *ℤ load)
    rises_slower h = omega (arith, ints, rise, h)

    -- it does not fall: the sum rises by at least p/q of the weight
    pub rises_faster : worth s ≤ℤ worth t → (p *ℤ load) ≤ℤ (q *ℤ gain)
    rises_faster h = omega (arith, ints, rise, h)

    -- it rises
    pub rises_more : worth s <ℤ worth t → (p *ℤ load) <ℤ (q *ℤ gain)
    rises_more h = omega (arith, ints, rise, h)

    -- it falls
    pub rises_less : worth t <ℤ worth s → (q *ℤ gain) <ℤ (p *ℤ load)
    rises_less h = omega (arith, ints, rise, h)

    -- it stays: the slope is the rise of the sum over the rise of the weight
    pub rises_same : worth t ≡ worth s → (q *ℤ gain) ≡ (p *ℤ load)
    rises_same h = omega (arith, ints, rise, h)

    -- at the slope that is the rise of the sum over the rise of the weight both sets are worth the
    -- same
    pub same_by_ratio : IsSameSlope p q gain load → worth t ≡ worth s
    same_by_ratio h = omega (arith, ints, rise, times-comm q gain, h)

-- minimisers at a lower slope lie within those at a higher one
pub slopes_nest : (terms : List Meaning) (n : ℕ) (sizes : List ℤ) → AreTerms n terms
    → length sizes ≡ n → AreSizes sizes → SlopesNest terms n sizes
slopes_nest terms n sizes fit sized ones p q p' q' s t lq lq' less hs ht =
    at (weight_grows i s sizes (length-intersection s t same) (hs.places ∙ sym sized) ones
    (λ e. in_first s t e same)) where
      same : length s ≡ length t
      same = hs.places ∙ sym ht.places

      i : List Bool
      i = intersection s t

      u : List Bool
      u = union s t

      sub : IsAllowed terms u × IsAllowed terms i
          × ((sum_at terms u +ℤ sum_at terms i) ≤ℤ (sum_at terms s +ℤ sum_at terms t))
      sub = sum-submodular n terms s t fit same hs.allowed ht.allowed

      at : (i ≡ s) ⊎ (sum_over i sizes <ℤ sum_over s sizes) → IsWithin s t
      at (inl e) = within_by_intersection s t same e
      at (inr lt) =
          let first = rises_slower terms sizes p q i s
          (hs.least i (length-intersection s t same ∙ hs.places) sub.1) in
          let second = rises_faster terms sizes p' q' t u
          (ht.least u (length-union s t same ∙ hs.places) sub.0) in
          let modular = sum_over-modular_any s t sizes same in
          let gain : (sum_over u sizes -ℤ sum_over t sizes)
          ≡ (sum_over s sizes -ℤ sum_over i sizes) = omega (arith, ints, modular) in
          let last = sub.2 in
          absurd (slope_clash p q p' q' (sum_at terms s -ℤ sum_at terms i)
          (sum_at terms u -ℤ sum_at terms t) (sum_over s sizes -ℤ sum_over i sizes) lq lq'
          (omega (arith, ints, lt)) less first (rw gain at second) (omega (arith, ints, last)))

-- q'·F at p/q is q·F at p'/q' where the slopes are the same
scaled_slope : (terms : List Meaning) (sizes : List ℤ) (p q p' q' : ℤ) (s : List Bool)
    → IsSameSlope p q p' q' → (q' *ℤ shifted_at terms q (sized_shift sizes p) s)
    ≡ (q *ℤ shifted_at terms q' (sized_shift sizes p') s)
scaled_slope terms sizes p q p' q' s same =
    let f = sum_at terms s in
    let k = sum_over s sizes in
    let left = ap (λ z. q' *ℤ z) (shifted-sized terms sizes p q s)
    ∙ times-sub q' (q *ℤ f) (p *ℤ k) in
    let right = ap (λ z. q *ℤ z) (shifted-sized terms sizes p' q' s)
    ∙ times-sub q (q' *ℤ f) (p' *ℤ k) in
    let one : (q' *ℤ (q *ℤ f)) ≡ (q *ℤ (q' *ℤ f)) = sym (times-assoc q' q f)
    ∙ (ap (λ z. z *ℤ f) (times-comm q' q) ∙ times-assoc q q' f) in
    let two : (q' *ℤ (p *ℤ k)) ≡ (q *ℤ (p' *ℤ k)) = sym (times-assoc q' p k)
    ∙ (ap (λ z. z *ℤ k) (times-comm q' p ∙ (same ∙ times-comm p' q)) ∙ times-assoc q p' k) in
    let both : ((q' *ℤ (q *ℤ f)) -ℤ (q' *ℤ (p *ℤ k)))
    ≡ ((q *ℤ (q' *ℤ f)) -ℤ (q *ℤ (p' *ℤ k))) = ap (λ z. z -ℤ (q' *ℤ (p *ℤ k))) one
    ∙ ap (λ z. (q *ℤ (q' *ℤ f)) -ℤ z) two in
    left ∙ (both ∙ sym right)

-- at the same slope, written otherwise, the minimisers are the same
pub same_slope : (terms : List Meaning) (n : ℕ) (sizes : List ℤ) (p q p' q' : ℤ) (s : List Bool)
    → pos 1 ≤ℤ q → pos 1 ≤ℤ q' → IsSameSlope p q p' q'
    → IsMinimiser terms n q (sized_shift sizes p) s
    → IsMinimiser terms n q' (sized_shift sizes p') s
same_slope terms n sizes p q p' q' s one one' same m =
    record { places = m.places; allowed = m.allowed; least = least } where
      least : (t : List Bool) → length t ≡ n → IsAllowed terms t
          → shifted_at terms q' (sized_shift sizes p') s ≤ℤ shifted_at terms q'
          (sized_shift sizes p') t
      least t tp ta =
          let h = times-mono q' (shifted_at terms q (sized_shift sizes p) s)
          (shifted_at terms q (sized_shift sizes p) t) (omega (arith, ints, one'))
          (m.least t tp ta) in
          let es = scaled_slope terms sizes p q p' q' s same in
          let et = scaled_slope terms sizes p q p' q' t same in
          times-cancel q (shifted_at terms q' (sized_shift sizes p') s)
          (shifted_at terms q' (sized_shift sizes p') t) one (rw (← es, ← et) h)

-- and so is the least one
pub least_same_slope : (terms : List Meaning) (n : ℕ) (sizes : List ℤ) (p q p' q' : ℤ)
    (s : List Bool) → pos 1 ≤ℤ q → pos 1 ≤ℤ q' → IsSameSlope p q p' q'
    → IsLeast terms n q (sized_shift sizes p) s → IsLeast terms n q' (sized_shift sizes p') s
least_same_slope terms n sizes p q p' q' s one one' same h = record {
  minimiser = same_slope terms n sizes p q p' q' s one one' same h.minimiser;
  within = λ t ht. h.within t (same_slope terms n sizes p' q' p q t one' one (sym same) ht);
}

-- and the greatest one
pub greatest_same_slope : (terms : List Meaning) (n : ℕ) (sizes : List ℤ) (p q p' q' : ℤ)
    (s : List Bool) → pos 1 ≤ℤ q → pos 1 ≤ℤ q' → IsSameSlope p q p' q'
    → IsGreatest terms n q (sized_shift sizes p) s → IsGreatest terms n q' (sized_shift sizes p') s
greatest_same_slope terms n sizes p q p' q' s one one' same h = record {
  minimiser = same_slope terms n sizes p q p' q' s one one' same h.minimiser;
  within = λ t ht. h.within t (same_slope terms n sizes p' q' p q t one' one (sym same) ht);
}

-- two greatest minimisers are the same set, and two least ones
pub same_greatest : (terms : List Meaning) (n : ℕ) (q : ℤ) (shift : List ℤ) (s t : List Bool)
    → IsGreatest terms n q shift s → IsGreatest terms n q shift t → s ≡ t
same_greatest terms n q shift s t hs ht =
    same_sets s t (hs.minimiser.places ∙ sym ht.minimiser.places)
    (λ e l. ht.within s hs.minimiser e) (λ e l. hs.within t ht.minimiser e)

-- two least minimisers are the same set
pub same_least : (terms : List Meaning) (n : ℕ) (q : ℤ) (shift : List ℤ) (s t : List Bool)
    → IsLeast terms n q shift s → IsLeast terms n q shift t → s ≡ t
same_least terms n q shift s t hs ht = same_sets s t (hs.minimiser.places ∙ sym ht.minimiser.places)
    (λ e l. hs.within t ht.minimiser e) (λ e l. ht.within s hs.minimiser e)
