-- Where the penalty exceeds every difference of two values, the minimisers with the shift of pins
-- are those among the sets that keep all pins, if there is such a set; and the least minimiser
-- tells whether there is.
use Rattle.std.proofs.Common.{◌≡◌, ◌⊎◌, ℕ, Bool, List, length, ℤ, pos, ◌+ℤ◌, ◌-ℤ◌, ◌<ℤ◌, inl, inr, ⊎_elim, sym, ◌∙◌, arith}
use Rattle.std.proofs.lemmas.Int.{ints}
use Rattle.sfm_spec.specs.Families.{Meaning, IsAllowed, IsMinimiser, IsLeast, IsGreatest, shifted_at, sum_at}
use Rattle.sfm_ask.specs.Pinned.{IsPinned}
use Rattle.sfm_ask.specs.Asking.{IsPinnedMinimiser, IsPinnedMinimum}
use Rattle.sfm_ask.specs.Shifts.{shift_of_pins}
use Rattle.sfm_ask.proofs.Penalties.{Keeps, broken, keeps-free, keeps-or-pays, promised, shift-is}

module _ (terms : List Meaning) (n : ℕ) (inside outside : List Bool) (m : ℤ)
    (same_in : length inside ≡ n) (same_out : length outside ≡ n)
    (gap : (s t : List Bool) → IsAllowed terms s → IsAllowed terms t
    → (sum_at terms s -ℤ sum_at terms t) <ℤ m) where
  -- the value with the shift of pins
  abbrev worth : List Bool → ℤ
  worth s = shifted_at terms (pos 1) (shift_of_pins m inside outside) s

  worth-is : (s : List Bool) → length s ≡ n
      → worth s ≡ ((sum_at terms s -ℤ promised m inside) +ℤ broken m inside outside s)
  worth-is s places =
      let e = shift-is m inside outside s (same_in ∙ sym places) (same_out ∙ sym places) in
      omega (arith, ints, e)

  -- a set that keeps all pins pays nothing
  pub worth-pinned : (s : List Bool) → IsPinned terms n inside outside s
      → worth s ≡ (sum_at terms s -ℤ promised m inside)
  worth-pinned s p =
      let w = worth-is s p.places in
      let k = keeps-free m inside outside s (record { has = p.has; lacks = p.lacks }) in
      omega (arith, ints, w, k)

  -- an allowed set keeps all pins, or is worth more than each that does
  pinned-or-dear : (t : List Bool) → length t ≡ n → IsAllowed terms t
      → IsPinned terms n inside outside t
      ⊎ ((s : List Bool) → IsPinned terms n inside outside s → worth s <ℤ worth t)
  pinned-or-dear t places allowed =
      let own = gap t t allowed allowed in
      ⊎_elim
      (λ k. inl (record { places = places; allowed = allowed; has = k.has; lacks = k.lacks }))
      (λ pays. inr (λ s p.
      let w = worth-pinned s p in
      let v = worth-is t places in
      let g = gap s t p.allowed allowed in
      omega (arith, ints, w, v, g, pays)))
      (keeps-or-pays m (omega (arith, ints, own)) inside outside t (same_in ∙ sym places)
      (same_out ∙ sym places))

  -- where some set keeps all pins, each minimiser does
  minimiser-pinned : (s t : List Bool) → IsPinned terms n inside outside s
      → IsMinimiser terms n (pos 1) (shift_of_pins m inside outside) t
      → IsPinned terms n inside outside t
  minimiser-pinned s t p h =
      let low = h.least s p.places p.allowed in
      ⊎_elim (λ q. q) (λ dear. let d = dear s p in absurd (omega (arith, ints, low, d)))
      (pinned-or-dear t h.places h.allowed)

  -- a minimiser that keeps all pins is one of those that do
  pub minimiser-of-pinned : (s : List Bool) → IsPinned terms n inside outside s
      → IsMinimiser terms n (pos 1) (shift_of_pins m inside outside) s
      → IsPinnedMinimiser terms n inside outside s
  minimiser-of-pinned s p h = record {
    pinned = p;
    least = λ t q.
        let low = h.least t q.places q.allowed in
        let w = worth-pinned s p in
        let v = worth-pinned t q in
        omega (arith, ints, low, w, v);
  }

  -- and one of those that do is a minimiser
  pub minimiser-pays-nothing : (s : List Bool) → IsPinnedMinimiser terms n inside outside s
      → IsMinimiser terms n (pos 1) (shift_of_pins m inside outside) s
  minimiser-pays-nothing s h = record {
    places = h.pinned.places;
    allowed = h.pinned.allowed;
    least = λ t places allowed. ⊎_elim
        (λ q.
        let low = h.least t q in
        let w = worth-pinned s h.pinned in
        let v = worth-pinned t q in
        omega (arith, ints, low, w, v))
        (λ dear. let d = dear s h.pinned in omega (arith, ints, d))
        (pinned-or-dear t places allowed);
  }

  -- a minimiser that breaks a pin tells that every set does
  pub none-pinned : (t : List Bool)
      → IsMinimiser terms n (pos 1) (shift_of_pins m inside outside) t
      → (Keeps inside outside t → ⊥) → (s : List Bool) → IsPinned terms n inside outside s → ⊥
  none-pinned t h breaks s p =
      let q = minimiser-pinned s t p h in
      breaks (record { has = q.has; lacks = q.lacks })

  -- the extreme minimisers are those of the sets that keep all pins, where the least one does
  pub pinned-minimum : (least greatest : List Bool) (value : ℤ)
      → IsLeast terms n (pos 1) (shift_of_pins m inside outside) least
      → IsGreatest terms n (pos 1) (shift_of_pins m inside outside) greatest
      → Keeps inside outside least → value ≡ (worth least +ℤ promised m inside)
      → IsPinnedMinimum terms n inside outside value least greatest
  pinned-minimum least greatest value low high keeps is =
      let p : IsPinned terms n inside outside least = record {
        places = low.minimiser.places;
        allowed = low.minimiser.allowed;
        has = keeps.has;
        lacks = keeps.lacks;
      } in
      let q = minimiser-pinned least greatest p high.minimiser in
      let w = worth-pinned least p in
      record {
        low = minimiser-of-pinned least p low.minimiser;
        high = minimiser-of-pinned greatest q high.minimiser;
        value_is = omega (arith, ints, is, w);
        between = λ t h.
            let r = minimiser-pays-nothing t h in
            (low.within t r, high.within t r);
      }
