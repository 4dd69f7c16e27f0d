-- Moves along walks of least steps, by distances and least steps themselves: they are lower bounds,
-- and no lower bounds are greater.
use Rattle.std.proofs.Common.{◌≡◌, ◌⊎◌, ℕ, zero, suc, ◌+◌, ◌*◌, ◌<◌, ◌≤◌, List, [], ◌∷◌, length, ℤ, pos, ◌≤ℤ◌, refl, subst, add-zero, arith, inl, inr}
use Rattle.std.proofs.lemmas.Bool.{cases_lt}
use Rattle.std.proofs.lemmas.Int.{ints, by_lt_z}
use Rattle.sfm_spec.specs.Families.{Meaning, AreTerms, AreBases, rest_at}
use Rattle.sfm_spec.specs.Walks.{Step, IsStep, AreSteps, IsOver, last_of}
use Rattle.sfm_spec.specs.Labels.{AreLabels, FollowsLabels, IsLeastMove, IsLeastChain, IsPairUpTo, IsPairBelow, Passes, FewWalksLaws, step_code}
use Rattle.sfm_spec.specs.Progress.{AreLowerBounds, IsMoveAtBounds, TakesLeastSteps, IsProgress, IsCountedChain}
use Rattle.sfm_spec.proofs.Walks.{first_below, step_below}
use Rattle.sfm_spec.proofs.Gain.{moves_along}
use Rattle.sfm_spec.proofs.Labels.{steps_end_below}
use Rattle.sfm_spec.proofs.Counts.{code_below}
use Rattle.sfm_spec.proofs.FewWalks.{bounds_after, zero_or_raised}
use Rattle.sfm_spec.proofs.FindLabels.{labels_exist}
use Rattle.sfm_spec.proofs.LeastWalks.{least_progress, counted_none, counted_more, counted_few}

module _ (terms : List Meaning) (rows : List (List ℤ)) (n : ℕ) (q : ℤ) (low : pos 0 ≤ℤ q)
    (fit : AreTerms n terms) (bases : AreBases q terms rows) (IsLast : ℕ → Type 0) (d l : ℕ → ℕ)
    (labels : AreLabels terms n q rows IsLast d l) where
  -- distances and least steps are lower bounds
  pub labels_bounds : AreLowerBounds terms n q rows IsLast d l
  labels_bounds = record {
    lasts = labels.distances.lasts;
    falls = labels.distances.falls;
    least = labels.least;
    bounded = labels.distances.bounded;
    codes = codes;
    far = λ e le is. labels.none e le (inr is);
  } where
    codes : (e : ℕ) → e < n → l e ≤ n * length terms
    codes e le = at (cases_lt 0 (d e)) (cases_lt n (d e)) where
      at : (0 < d e) ⊎ (d e ≤ 0) → (n < d e) ⊎ (d e ≤ n) → l e ≤ n * length terms
      at (inr zero') o = let z = labels.none e le (inl (omega arith)) in omega (arith, z)
      at (inl some) (inl far) = let b = labels.distances.bounded e le in let z = labels.none e le
          (inr (omega (arith, b))) in omega (arith, z)
      at (inl some) (inr near) =
          let (step, h, falls, code) = labels.best e le some near in
          let c = code_below n (length terms) step.to step.term
          (step_below terms rows n q low fit bases e step h) h.2.in_range in
          omega (arith, c, code)

  module _ (b c : ℕ → ℕ) (bounds : AreLowerBounds terms n q rows IsLast b c) where
    within : (k e : ℕ) → e < n → d e ≡ k → k ≤ n → b e ≤ k
    within zero e le is kn = let z = bounds.lasts e le
        (labels.distances.at_last e le is) in omega (arith, z)
    within (suc k) e le is kn = at (within k)
        (labels.distances.leads e le (omega (arith, is)) (omega (arith, is, kn))) where
          at : ((e : ℕ) → e < n → d e ≡ k → k ≤ n → b e ≤ k) → (step : Step)
              × IsStep terms q rows e step × (d e ≡ d step.to + 1) → b e ≤ suc k
          at next (step, h, falls) =
              let r = next step.to (step_below terms rows n q low fit bases e step h)
              (omega (arith, falls, is)) (omega (arith, kn)) in
              let s = bounds.falls e step h in
              omega (arith, r, s)

    distance_below : (e : ℕ) → e < n → b e ≤ d e
    distance_below e le = at (cases_lt n (d e)) where
      at : (n < d e) ⊎ (d e ≤ n) → b e ≤ d e
      at (inl far) = let x = bounds.bounded e le in omega (arith, x, far)
      at (inr near) = within (d e) e le refl near

    code_below_label : (e : ℕ) → e < n → b e ≡ d e → 1 ≤ d e → c e ≤ l e
    code_below_label e le same some = at (cases_lt n (d e)) where
      at : (n < d e) ⊎ (d e ≤ n) → c e ≤ l e
      at (inl far) = let x = labels.distances.bounded e le in let z = bounds.far e le
          (omega (arith, x, far, same)) in omega (arith, z)
      at (inr near) =
          let (step, h, falls, code) = labels.best e le some near in
          let k = distance_below step.to (step_below terms rows n q low fit bases e step h) in
          let s = bounds.falls e step h in
          let t = bounds.least e step h (omega (arith, k, s, same, falls)) in
          omega (arith, t, code)

    -- lower bounds are at most the distance and the least step, where some step leads to a last
    -- place
    pub pair_below : (e : ℕ) → e < n → 1 ≤ b e → IsPairUpTo (b e) (c e) (d e) (l e)
    pair_below e le some = at (cases_lt (b e) (d e)) where
      at : (b e < d e) ⊎ (d e ≤ b e) → IsPairUpTo (b e) (c e) (d e) (l e)
      at (inl less) = inl less
      at (inr ge) = let k = distance_below e le in inr (
        omega (arith, k, ge),
        code_below_label e le (omega (arith, k, ge))
            (omega (arith, k, some)),
      )

    -- and where none is needed
    pub pair_at_last : (e : ℕ) → e < n → b e ≡ 0 → c e ≡ 0 → IsPairUpTo (b e) (c e) (d e) (l e)
    pair_at_last e le bz cz = at (cases_lt 0 (d e)) where
      at : (0 < d e) ⊎ (d e ≤ 0) → IsPairUpTo (b e) (c e) (d e) (l e)
      at (inl more) = inl (omega (arith, bz, more))
      at (inr zero') = inr (omega (arith, bz, zero'), omega (arith, cz))

-- a step of a walk of least steps has the least code of all that lower the distance
pub labels_least : (terms : List Meaning) (q : ℤ) (rows : List (List ℤ)) (d l : ℕ → ℕ)
    → ((from : ℕ) (step : Step) → IsStep terms q rows from step → d from ≡ d step.to + 1
    → l from ≤ step_code terms step)
    → (from : ℕ) (steps : List Step) → FollowsLabels terms d l from steps
    → TakesLeastSteps terms q rows d from steps
labels_least terms q rows d l least from [] h = tt
labels_least terms q rows d l least from (s ∷ ss) h = (
  h.0,
  (λ other k f. let x = least from other k f in let y = h.1 in omega (arith, x, y)),
  labels_least terms q rows d l least s.to ss h.2,
)

module _ (terms : List Meaning) (n : ℕ) (q : ℤ) (shift : List ℤ) (low : pos 0 ≤ℤ q)
    (fit : AreTerms n terms) where
  module _ (rows : List (List ℤ)) (bases : AreBases q terms rows) (after : List (List ℤ))
      (d l : ℕ → ℕ) (move : IsLeastMove terms n q shift rows after d l) where
    -- it is a move along a walk of least steps, and so progress
    pub move_progress : IsProgress terms n q shift rows after
    move_progress = least_progress terms rows n q shift low fit bases d move.labels.distances.lasts
        move.labels.distances.falls after move.along
        (labels_least terms q rows d l move.labels.least move.along.first move.along.steps
        move.follows) move.full

    near_first : (from : ℕ) (steps : List Step) → AreSteps terms q rows from steps
        → d (last_of from steps) ≤ n → d from ≤ n
    near_first from [] h last = last
    near_first from (s ∷ ss) h last =
        move.labels.distances.closed from s h.0 (near_first s.to ss h.1 last)

    near : d move.along.first ≤ n
    near =
        let w = move.along.shortest.shortest in
        let last = steps_end_below terms rows n q low fit bases move.along.first move.along.steps
        (first_below terms rows n q low fit bases move.along.first move.along.steps w.walk)
        w.walk.steps_fit in
        let z = move.labels.distances.lasts (last_of move.along.first move.along.steps) last
        w.arrives in
        near_first move.along.first move.along.steps w.walk.steps_fit (omega (arith, z))

    abbrev at_bounds : IsMoveAtBounds terms n q shift rows after d l
    at_bounds = record {
      bounds = labels_bounds terms rows n q low fit bases
          (IsOver terms rows shift) d l move.labels;
      along = move.along;
      follows = move.follows;
      near = near;
      full = move.full;
    }

    bases_after : AreBases q terms after
    bases_after = (moves_along terms rows n q shift low fit bases after move.along).0

    module _ (d' l' : ℕ → ℕ) (labels' : AreLabels terms n q after (IsOver terms after shift) d'
        l') where
      -- no pair falls
      pub pair_kept : (e : ℕ) → e < n → IsPairUpTo (d e) (l e) (d' e) (l' e)
      pair_kept e le = at (cases_lt 0 (d e)) where
        kept : AreLowerBounds terms n q after (IsOver terms after shift) d l
        kept = bounds_after terms rows n q shift low fit bases d l after at_bounds

        at : (0 < d e) ⊎ (d e ≤ 0) → IsPairUpTo (d e) (l e) (d' e) (l' e)
        at (inl some) = pair_below terms after n q low fit bases_after (IsOver terms after shift) d'
            l' labels' d l kept e le some
        at (inr zero') = pair_at_last terms after n q low fit bases_after (IsOver terms after shift)
            d' l' labels' d l kept e le (omega arith) (move.labels.none e le (inl (omega arith)))

      -- each move makes z zero at an end of the walk, or raises the pair of a place on it
      pub zero_or_rises : (rest_at terms after shift move.along.first ≡ pos 0)
          ⊎ ((rest_at terms after shift (last_of move.along.first move.along.steps) ≡ pos 0)
          ⊎ ((e : ℕ) × Passes move.along.first move.along.steps e
          × IsPairBelow (d e) (l e) (d' e) (l' e)))
      zero_or_rises = at (zero_or_raised terms rows n q shift low fit bases d l after
          at_bounds) where
            some_distance : (from : ℕ) (steps : List Step) (e : ℕ)
                → FollowsLabels terms d l from steps
                → Passes from steps e → 1 ≤ d e
            some_distance from [] e h on = absurd on
            some_distance from (s ∷ ss) e h (inl is) = rw (← is) (let f = h.0 in omega (arith, f))
            some_distance from (s ∷ ss) e h (inr on) = some_distance s.to ss e h.2 on

            at : (rest_at terms after shift move.along.first ≡ pos 0)
                ⊎ ((rest_at terms after shift (last_of move.along.first move.along.steps) ≡ pos 0)
                ⊎ ((at : ℕ) × Passes move.along.first move.along.steps at × (at < n) × (l' : ℕ → ℕ)
                × AreLowerBounds terms n q after (IsOver terms after shift) d l'
                × ((e : ℕ) → l e ≤ l' e) × (l at < l' at)))
                → (rest_at terms after shift move.along.first ≡ pos 0)
                ⊎ ((rest_at terms after shift (last_of move.along.first move.along.steps) ≡ pos 0)
                ⊎ ((e : ℕ) × Passes move.along.first move.along.steps e
                × IsPairBelow (d e) (l e) (d' e) (l' e)))
            at (inl zero') = inl zero'
            at (inr (inl zero')) = inr (inl zero')
            at (inr (inr (e, on, le, c, bounds, up, less))) =
                inr (inr (
                  e,
                  on,
                  more (pair_below terms after n q low fit bases_after
                      (IsOver terms after shift) d' l' labels' d c bounds e le
                      (some_distance move.along.first move.along.steps e move.follows on)),
                )) where
                  more : IsPairUpTo (d e) (c e) (d' e) (l' e)
                      → IsPairBelow (d e) (l e) (d' e) (l' e)
                  more (inl h) = inl h
                  more (inr h) = let k = h.1 in inr (h.0, omega (arith, less, k))

  chain_counts : (firsts : List (List ℤ)) (t s : ℕ) (rows last : List (List ℤ))
      → AreBases q terms rows → IsCountedChain terms n q shift firsts rows s
      → IsLeastChain terms n q shift t rows last
      → IsCountedChain terms n q shift firsts last (s + t)
  chain_counts firsts zero s rows last bases h chain = rw (chain, add-zero s) h
  chain_counts firsts (suc t) s rows last bases h (mid, d, l, move, chain) =
      let r = chain_counts firsts t (s + 1) mid last (bases_after rows bases mid d l move)
      (counted_more terms n q shift firsts rows mid s h (move_progress rows bases mid d l move))
      chain in
      let e : s + 1 + t ≡ s + suc t = omega arith in
      subst (λ z. IsCountedChain terms n q shift firsts last z) e r

  -- the laws of few walks
  pub few_walks_laws : (rows : List (List ℤ)) → AreBases q terms rows
      → FewWalksLaws terms n q shift rows
  few_walks_laws rows bases = record {
    exist = labels_exist terms rows n q low fit bases (IsOver terms rows shift)
        (λ e. by_lt_z (pos 0) (rest_at terms rows shift e) (λ over. inl over)
        (λ le. inr (λ over. omega (arith, ints, over, le))));
    kept = λ after d l d' l' move labels' e le. pair_kept rows bases after d l move d' l' labels' e
        le;
    raised = λ after d l d' l' move labels'. zero_or_rises rows bases after d l move d' l' labels';
    few = λ t last chain. let h = chain_counts rows t 0 rows last bases
        (counted_none terms n q shift rows) chain in let f = counted_few terms n q shift rows last
        (0 + t) h in omega (arith, f);
  }
