-- A walk of least steps: each lowers the distance by one, and none that does so has a lesser code.
-- Whatever lower bounds there are, they can be raised so that the walk meets them, and that lowers
-- no potential. So a move along the walk is progress, and moves are counted by their bounds.
use Rattle.std.proofs.Common.{◌≡◌, ◌≢◌, ◌⊎◌, ℕ, ◌+◌, ◌*◌, ◌^◌, ◌<◌, ◌≤◌, min, max, List, [], ◌∷◌, length, nat_eq, ℤ, pos, neg_ℤ, ◌≤ℤ◌, if◌then◌else◌, refl, ap, ◌∙◌, arith, inl, inr}
use Rattle.std.proofs.Math.Nat.{mul-le-mul}
use Rattle.std.proofs.lemmas.Bool.{cases_lt, cases_eq, eq-eqb, ne_eqb}
use Rattle.sfm_spec.specs.Families.{Meaning, AreTerms, AreBases, rest_at}
use Rattle.sfm_spec.specs.Walks.{Step, IsStep, AreSteps, IsOver, MovesAlong, IsFewWalks, few_walks, last_of}
use Rattle.sfm_spec.specs.Labels.{FallsAlong, FollowsLabels, HasFull, step_code}
use Rattle.sfm_spec.specs.Progress.{AreLowerBounds, IsMoveAtBounds, TakesLeastSteps, IsProgress, IsCountedChain, rank_of, potential}
use Rattle.sfm_spec.proofs.Walks.{first_below, step_below}
use Rattle.sfm_spec.proofs.Labels.{falls_all, falls_within, steps_end_below}
use Rattle.sfm_spec.proofs.Moves.{walks_push}
use Rattle.sfm_spec.proofs.Counts.{few_values, code_below, rank_rises, rank_same}
use Rattle.sfm_spec.proofs.Changed.{changed, changed-here, changed-other, each_changed, bounds_changed}
use Rattle.sfm_spec.proofs.FewWalks.{potential-le, potential_bounded, bounds_rise}

-- along a walk of least steps the distance falls by one at each step
pub least_falls : (terms : List Meaning) (q : ℤ) (rows : List (List ℤ)) (d : ℕ → ℕ) (from : ℕ)
    (steps : List Step) → TakesLeastSteps terms q rows d from steps → FallsAlong d from steps
least_falls terms q rows d from [] h = tt
least_falls terms q rows d from (step ∷ steps) h =
    (h.0, least_falls terms q rows d step.to steps h.2)

module _ (terms : List Meaning) (rows : List (List ℤ)) (n : ℕ) (q : ℤ) (low : pos 0 ≤ℤ q)
    (fit : AreTerms n terms) (bases : AreBases q terms rows) where
  -- a walk to distance 0 has fewer steps than there are places
  pub few_steps : (d : ℕ → ℕ) (from : ℕ) (steps : List Step) → from < n
      → AreSteps terms q rows from steps → FallsAlong d from steps → d (last_of from steps) ≡ 0
      → length steps < n
  few_steps d from steps le fits falls ends =
      let k = few_values n (length steps + 1) d
      (each from steps le fits falls ends) in omega (arith, k) where
        each : (from : ℕ) (steps : List Step) → from < n → AreSteps terms q rows from steps
            → FallsAlong d from steps → d (last_of from steps) ≡ 0 → (j : ℕ) → j < length steps + 1
            → (e : ℕ) × (e < n) × (d e ≡ j)
        each from [] le fits falls ends j l = (from, le, omega (arith, ends, l))
        each from (s ∷ ss) le fits falls ends j l =
            at (cases_lt j (length ss + 1))
            (each s.to ss (step_below terms rows n q low fit bases from s fits.0) fits.1 falls.1
            ends) where
              at : (j < length ss + 1) ⊎ (length ss + 1 ≤ j)
                  → ((j : ℕ) → j < length ss + 1 → (e : ℕ) × (e < n) × (d e ≡ j)) → (e : ℕ)
                  × (e < n)
                  × (d e ≡ j)
              at (inl less) rest = rest j less
              at (inr more) rest = let f = falls_all d from (s ∷ ss)
                  falls in (from, le, omega (arith, f, ends, l, more))

  module _ (IsLast : ℕ → Type 0) where
    -- ---- greater distances

    module _ (d l d' : ℕ → ℕ) (bounds : AreLowerBounds terms n q rows IsLast d l)
        (up : (e : ℕ) → d e ≤ d' e) (lasts : (e : ℕ) → e < n → IsLast e → d' e ≡ 0)
        (falls : (from : ℕ) (step : Step) → IsStep terms q rows from step
        → d' from ≤ d' step.to + 1) (bounded : (e : ℕ) → e < n → d' e ≤ n + 1) where
      -- where the distance rises, nothing is known of the least step
      abbrev started : ℕ → ℕ
      started e = if nat_eq (d e) (d' e) then l e else 0

      started_same : (e : ℕ) → d e ≡ d' e → started e ≡ l e
      started_same e same = rw (eq-eqb (d e) (d' e) same) refl

      started_more : (e : ℕ) → d e ≢ d' e → started e ≡ 0
      started_more e more = rw (ne_eqb (d e) (d' e) more) refl

      started_bounds : AreLowerBounds terms n q rows IsLast d' started
      started_bounds = record {
        lasts = lasts;
        falls = falls;
        least = least;
        bounded = bounded;
        codes = codes;
        far = far;
      } where
        least : (from : ℕ) (step : Step) → IsStep terms q rows from step → d' from ≡ d' step.to + 1
            → started from ≤ step_code terms step
        least from step h f = at (cases_eq (d from) (d' from)) where
          at : (d from ≡ d' from) ⊎ (d from ≢ d' from) → started from ≤ step_code terms step
          at (inl same) =
              let s = started_same from same in
              let u = up step.to in
              let g = bounds.falls from step h in
              let b = bounds.least from step h (omega (arith, same, u, g, f)) in
              omega (arith, s, b)
          at (inr more) = let s = started_more from more in omega (arith, s)

        codes : (e : ℕ) → e < n → started e ≤ n * length terms
        codes e le = at (cases_eq (d e) (d' e)) where
          at : (d e ≡ d' e) ⊎ (d e ≢ d' e) → started e ≤ n * length terms
          at (inl same) = let s = started_same e same in let b = bounds.codes e
              le in omega (arith, s, b)
          at (inr more) = let s = started_more e more in omega (arith, s)

        far : (e : ℕ) → e < n → d' e ≡ n + 1 → started e ≡ 0
        far e le is = at (cases_eq (d e) (d' e)) where
          at : (d e ≡ d' e) ⊎ (d e ≢ d' e) → started e ≡ 0
          at (inl same) = started_same e same ∙ bounds.far e le (same ∙ is)
          at (inr more) = started_more e more

      started_rises : (shift : List ℤ) → potential terms n shift rows d l ≤ potential terms n shift
          rows d' started
      started_rises shift = potential-le terms n shift rows d l d' started
          (λ e le. at e le (cases_eq (d e) (d' e))) where
            at : (e : ℕ) → e < n → (d e ≡ d' e) ⊎ (d e ≢ d' e)
                → rank_of (n * length terms + 1) (d e) (l e) ≤ rank_of (n * length terms + 1) (d' e)
                (started e)
            at e le (inl same) = rank_same (n * length terms + 1) (d e) (l e) (d' e) (started e)
                same
                (let s = started_same e same in omega (arith, s))
            at e le (inr more) = rank_rises (n * length terms + 1) (d e) (l e) (d' e) (started e)
                (let u = up e in omega (arith, u, more))
                (let c = bounds.codes e le in omega (arith, c))

    -- ---- the least steps of a walk

    pub record MeetsWalk (d l : ℕ → ℕ) (from : ℕ) (steps : List Step) : Type 0 where
      pub l' : ℕ → ℕ
      pub bounds : AreLowerBounds terms n q rows IsLast d l'
      pub follows : FollowsLabels terms d l' from steps
      pub up : (e : ℕ) → l e ≤ l' e

    -- the bounds on least steps can be raised to those of the walk
    pub meets_walk : (d l : ℕ → ℕ) → AreLowerBounds terms n q rows IsLast d l
        → (from : ℕ) (steps : List Step) → d from ≤ n → AreSteps terms q rows from steps
        → TakesLeastSteps terms q rows d from steps → MeetsWalk d l from steps
    meets_walk d l bounds from [] near fits least =
        record { l' = l; bounds = bounds; follows = tt; up = λ e. omega arith }
    meets_walk d l bounds from (s ∷ ss) near fits least =
        more (meets_walk d l bounds s.to ss (let f = least.0 in omega (arith, f, near)) fits.1
        least.2) where
          more : MeetsWalk d l s.to ss → MeetsWalk d l from (s ∷ ss)
          more m = record {
            l' = met;
            bounds = bounds_changed terms n q rows IsLast d m.l' from (step_code terms s) m.bounds
                near
                small least.1;
            follows = (
              least.0,
              changed-here from (step_code terms s) m.l',
              follows s.to ss m.follows (let f = least.0 in omega (arith, f)),
            );
            up = each_changed (λ e v. l e ≤ v) from (step_code terms s) m.l'
                (bounds.least from s fits.0 least.0) (λ e ne. m.up e);
          } where
            met : ℕ → ℕ
            met = changed from (step_code terms s) m.l'

            small : step_code terms s ≤ n * length terms
            small = let c = code_below n (length terms) s.to s.term
                (step_below terms rows n q low fit bases from s fits.0)
                fits.0.2.in_range in omega (arith, c)

            follows : (at : ℕ) (steps : List Step) → FollowsLabels terms d m.l' at steps
                → d at < d from
                → FollowsLabels terms d met at steps
            follows at [] h less = tt
            follows at (t ∷ ts) h less =
                let f = h.0 in (
                  h.0,
                  changed-other from (step_code terms s) m.l' at
                      (λ same. let g = ap d same in omega (arith, g, less)) ∙ h.1,
                  follows t.to ts h.2 (omega (arith, f, less)),
                )

-- ---- a move along a walk of least steps

module _ (terms : List Meaning) (rows : List (List ℤ)) (n : ℕ) (q : ℤ) (shift : List ℤ)
    (low : pos 0 ≤ℤ q) (fit : AreTerms n terms) (bases : AreBases q terms rows)
    (c : ℕ → ℕ) (lasts : (e : ℕ) → e < n → IsOver terms rows shift e → c e ≡ 0)
    (falls : (from : ℕ) (step : Step) → IsStep terms q rows from step
    → c from ≤ c step.to + 1) where
  module _ (after : List (List ℤ)) (along : MovesAlong terms q shift rows after)
      (least : TakesLeastSteps terms q rows c along.first along.steps)
      (full : (along.a ≡ neg_ℤ (rest_at terms rows shift along.first))
      ⊎ ((along.a ≡ rest_at terms rows shift (last_of along.first along.steps))
      ⊎ HasFull terms q rows along.first along.steps along.a)) where
    abbrev first : ℕ
    first = along.first

    abbrev steps : List Step
    steps = along.steps

    fits : AreSteps terms q rows first steps
    fits = along.shortest.shortest.walk.steps_fit

    first_in : first < n
    first_in = first_below terms rows n q low fit bases first steps along.shortest.shortest.walk

    last_in : last_of first steps < n
    last_in = steps_end_below terms rows n q low fit bases first steps first_in fits

    last_zero : c (last_of first steps) ≡ 0
    last_zero = lasts (last_of first steps) last_in along.shortest.shortest.arrives

    first_near : c first < n
    first_near =
        let f = least_falls terms q rows c first steps least in
        let w = falls_all c first steps f in
        let k = few_steps terms rows n q low fit bases c first steps first_in fits f last_zero in
        omega (arith, w, k, last_zero)

    module _ (d l : ℕ → ℕ) (bounds : AreLowerBounds terms n q rows (IsOver terms rows shift) d
        l) where
      -- the greater of both distances
      abbrev both : ℕ → ℕ
      both e = max (d e) (min (c e) (n + 1))

      up : (e : ℕ) → d e ≤ both e
      up e = omega arith

      both_lasts : (e : ℕ) → e < n → IsOver terms rows shift e → both e ≡ 0
      both_lasts e le over = let x = bounds.lasts e le over in let y = lasts e le
          over in omega (arith, x, y)

      both_falls : (from : ℕ) (step : Step) → IsStep terms q rows from step
          → both from ≤ both step.to + 1
      both_falls from step h = let x = bounds.falls from step h in let y = falls from step
          h in omega (arith, x, y)

      both_bounded : (e : ℕ) → e < n → both e ≤ n + 1
      both_bounded e le = let x = bounds.bounded e le in omega (arith, x)

      -- on the walk it is the one by which the steps are least
      on_walk : (from : ℕ) (steps : List Step) → AreSteps terms q rows from steps
          → last_of from steps < n → IsOver terms rows shift (last_of from steps) → c from ≤ n
          → FallsAlong c from steps → both from ≡ c from
      on_walk from steps fits le over near f =
          let x = falls_within terms q rows d bounds.falls from steps fits in
          let y = bounds.lasts (last_of from steps) le over in
          let z = lasts (last_of from steps) le over in
          let w = falls_all c from steps f in
          omega (arith, x, y, z, w, near)

      along_walk : (from : ℕ) (steps : List Step) → AreSteps terms q rows from steps
          → last_of from steps < n → IsOver terms rows shift (last_of from steps) → c from ≤ n
          → TakesLeastSteps terms q rows c from steps
          → TakesLeastSteps terms q rows both from steps
      along_walk from [] fits le over near h = tt
      along_walk from (s ∷ ss) fits le over near h =
          let here = on_walk from (s ∷ ss) fits le over near
          (least_falls terms q rows c from (s ∷ ss) h) in
          let f = h.0 in
          let next = on_walk s.to ss fits.1 le over (omega (arith, f, near))
          (least_falls terms q rows c s.to ss h.2) in (
            omega (arith, here, next, f),
            (λ other k g. let y = falls from other k in h.1 other k
                (omega (arith, here, g, y, near))),
            along_walk s.to ss fits.1 le over (omega (arith, f, near)) h.2,
          )

      abbrev Meets : Type 0
      Meets = MeetsWalk terms rows n q low fit bases (IsOver terms rows shift) both
          (started terms rows n q low fit bases (IsOver terms rows shift) d l both bounds up
          both_lasts both_falls both_bounded) first steps

      meets : Meets
      meets = meets_walk terms rows n q low fit bases (IsOver terms rows shift) both
          (started terms rows n q low fit bases (IsOver terms rows shift) d l both bounds up
          both_lasts both_falls both_bounded)
          (started_bounds terms rows n q low fit bases (IsOver terms rows shift) d l both bounds up
          both_lasts both_falls both_bounded) first steps
          (let h = on_walk first steps fits last_in along.shortest.shortest.arrives
          (omega (arith, first_near))
          (least_falls terms q rows c first steps least) in omega (arith, h, first_near)) fits
          (along_walk first steps fits last_in along.shortest.shortest.arrives
          (omega (arith, first_near)) least)

      rises : (d' : ℕ → ℕ) × (l' : ℕ → ℕ)
          × AreLowerBounds terms n q after (IsOver terms after shift) d' l'
          × (potential terms n shift rows d l < potential terms n shift after d' l')
      rises =
          let m = meets in
          let move : IsMoveAtBounds terms n q shift rows after both m.l' = record {
            bounds = m.bounds;
            along = along;
            follows = m.follows;
            near = (let h = on_walk first steps fits last_in along.shortest.shortest.arrives
                (omega (arith, first_near))
                (least_falls terms q rows c first steps least) in omega (arith, h, first_near));
            full = full;
          } in
          let (l', bounds', less) = bounds_rise terms rows n q shift low fit bases both m.l' after
          move in
          let s = started_rises terms rows n q low fit bases (IsOver terms rows shift) d l both
          bounds up both_lasts both_falls both_bounded shift in
          let t = potential-le terms n shift rows both
          (started terms rows n q low fit bases (IsOver terms rows shift) d l both bounds up
          both_lasts both_falls both_bounded) both m.l'
          (λ e le. rank_same (n * length terms + 1) (both e)
          (started terms rows n q low fit bases (IsOver terms rows shift) d l both bounds up
          both_lasts both_falls both_bounded e) (both e) (m.l' e) refl (m.up e)) in
          (both, l', bounds', omega (arith, s, t, less))

    -- it is progress, by whatever distances its steps are least
    pub least_progress : IsProgress terms n q shift rows after
    least_progress = record { along = along; rises = rises }

-- ---- counting moves

-- no move leads from the first bases to themselves, and 0 is a lower bound on everything
pub counted_none : (terms : List Meaning) (n : ℕ) (q : ℤ) (shift : List ℤ) (rows : List (List ℤ))
    → IsCountedChain terms n q shift rows rows 0
counted_none terms n q shift rows = record {
  chain = refl;
  d = λ e. 0;
  l = λ e. 0;
  bounds = record {
    lasts = λ e le over. refl;
    falls = λ from step h. omega arith;
    least = λ from step h f. omega arith;
    bounded = λ e le. omega arith;
    codes = λ e le. omega arith;
    far = λ e le is. refl;
  };
  reached = omega arith;
}

-- one move more
pub counted_more : (terms : List Meaning) (n : ℕ) (q : ℤ) (shift : List ℤ)
    (firsts rows after : List (List ℤ)) (t : ℕ) → IsCountedChain terms n q shift firsts rows t
    → IsProgress terms n q shift rows after
    → IsCountedChain terms n q shift firsts after (t + 1)
counted_more terms n q shift firsts rows after t h progress =
    let (d', l', bounds', less) = progress.rises h.d h.l h.bounds in
    let r = h.reached in
    record {
      chain = walks_push terms q shift t firsts rows after h.chain progress.along;
      d = d';
      l = l';
      bounds = bounds';
      reached = omega (arith, r, less);
    }

-- so they are few
pub counted_few : (terms : List Meaning) (n : ℕ) (q : ℤ) (shift : List ℤ)
    (firsts rows : List (List ℤ)) (t : ℕ) → IsCountedChain terms n q shift firsts rows t
    → t ≤ few_walks n (length terms)
counted_few terms n q shift firsts rows t h =
    let b = potential_bounded terms n q shift rows (IsOver terms rows shift) h.d h.l h.bounds in
    let r = h.reached in
    omega (arith, b, r)

pub counted_is_few : (terms : List Meaning) (n : ℕ) (q : ℤ) (shift : List ℤ)
    (firsts rows : List (List ℤ)) (t : ℕ) → IsCountedChain terms n q shift firsts rows t
    → IsFewWalks terms n q shift firsts rows
counted_is_few terms n q shift firsts rows t h =
    (t, counted_few terms n q shift firsts rows t h, h.chain)

-- over as many elements and terms as there may be, the number of few walks is below 2^39
pub few_walks_small : (n m : ℕ) → n ≤ 256 → m ≤ 16384 → few_walks n m < 2 ^ 39
unfolding few_walks
few_walks_small n m hn hm =
    let h : n + 1 ≤ 257 = omega (arith, hn) in
    let a : n * (n + 1) ≤ 256 * 257 = mul-le-mul hn h in
    let b : n * m ≤ 256 * 16384 = mul-le-mul hn hm in
    let k : n * m + 1 ≤ 256 * 16384 + 1 = omega (arith, b) in
    let c : n * (n + 1) * (n * m + 1) ≤ 256 * 257 * (256 * 16384 + 1) = mul-le-mul a k in
    omega (arith, hn, c)
