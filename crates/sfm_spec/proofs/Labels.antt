-- Distances to some last places: along each step they fall by at most one. A walk along which they
-- fall by one at each step is a shortest one, and the places whose distance is within n are those
-- from which a walk leads to a last place.
use Rattle.std.proofs.Common.{◌≡◌, ◌↔◌, ◌⊎◌, ℕ, zero, suc, ◌+◌, ◌<◌, ◌≤◌, Bool, List, [], ◌∷◌, length, ℤ, pos, ◌≤ℤ◌, arith, inl, inr}
use Rattle.std.proofs.lemmas.Bool.{cases_lt}
use Rattle.sfm_spec.specs.Sets.{Has}
use Rattle.sfm_spec.specs.Families.{Meaning, AreTerms, AreBases}
use Rattle.sfm_spec.specs.Walks.{Step, IsStep, AreSteps, IsWalk, IsShortestTo, last_of}
use Rattle.sfm_spec.specs.Labels.{AreDistances, FallsAlong}
use Rattle.sfm_spec.specs.Reach.{IsClosedBack, IsLeadingSet, Leads}
use Rattle.sfm_spec.proofs.Extremes.{leads_step}
use Rattle.sfm_spec.proofs.Walks.{first_below, step_below, has_below}

-- the distance falls by the number of steps
pub falls_all : (d : ℕ → ℕ) (from : ℕ) (steps : List Step) → FallsAlong d from steps
    → d from ≡ d (last_of from steps) + length steps
falls_all d from [] h = omega arith
falls_all d from (step ∷ steps) h =
    let r = falls_all d step.to steps h.1 in let e = h.0 in omega (arith, r, e)

-- a walk cannot be shorter than d falls
pub falls_within : (terms : List Meaning) (q : ℤ) (rows : List (List ℤ)) (d : ℕ → ℕ)
    → ((from : ℕ) (step : Step) → IsStep terms q rows from step → d from ≤ d step.to + 1)
    → (from : ℕ) (steps : List Step) → AreSteps terms q rows from steps
    → d from ≤ d (last_of from steps) + length steps
falls_within terms q rows d falls from [] h = omega arith
falls_within terms q rows d falls from (step ∷ steps) h =
    let r = falls_within terms q rows d falls step.to steps h.1 in let e = falls from step
    h.0 in omega (arith, r, e)

module _ (terms : List Meaning) (rows : List (List ℤ)) (n : ℕ) (q : ℤ) (low : pos 0 ≤ℤ q)
    (fit : AreTerms n terms) (bases : AreBases q terms rows) where
  -- steps from a place of the ground end at one
  pub steps_end_below : (at : ℕ) (steps : List Step) → at < n → AreSteps terms q rows at steps
      → last_of at steps < n
  steps_end_below at [] l h = l
  steps_end_below at (s ∷ ss) l h =
      steps_end_below s.to ss (step_below terms rows n q low fit bases at s h.0) h.1

  -- a walk ends at a place of the ground
  pub walk_ends_below : (from : ℕ) (steps : List Step) → IsWalk terms q rows from steps
      → last_of from steps < n
  walk_ends_below from steps h =
      steps_end_below from steps (first_below terms rows n q low fit bases from steps h) h.steps_fit

module _ (terms : List Meaning) (rows : List (List ℤ)) (n : ℕ) (q : ℤ) (low : pos 0 ≤ℤ q)
    (fit : AreTerms n terms) (bases : AreBases q terms rows) (IsLast : ℕ → Type 0) (d : ℕ → ℕ)
    (distances : AreDistances terms n q rows IsLast d) where
  -- a walk to a last place along which d falls by one at each step is a shortest one
  pub shortest_by_distances : (first : ℕ) (steps : List Step) → IsWalk terms q rows first steps
      → FallsAlong d first steps → IsLast (last_of first steps)
      → IsShortestTo terms q rows IsLast first steps
  shortest_by_distances first steps walk falls arrives =
      record { walk = walk; arrives = arrives; fewest = fewest } where
        fewest : (other : List Step) → IsWalk terms q rows first other
            → IsLast (last_of first other)
            → length steps ≤ length other
        fewest other walk' arrives' =
            let mine = falls_all d first steps falls in
            let theirs = falls_within terms q rows d distances.falls first other walk'.steps_fit in
            let ends = distances.lasts (last_of first other)
            (walk_ends_below terms rows n q low fit bases first other walk') arrives' in
            omega (arith, mine, theirs, ends)

  leads_at : (fuel : ℕ) (e : ℕ) → e < n → d e ≤ n → d e ≤ fuel → Leads terms q rows IsLast e
  leads_at zero e le ln few = inl (distances.at_last e le (omega arith))
  leads_at (suc fuel) e le ln few = at (cases_lt 0 (d e)) (leads_at fuel) where
    at : (0 < d e) ⊎ (d e ≤ 0) → ((e : ℕ) → e < n → d e ≤ n → d e ≤ fuel
        → Leads terms q rows IsLast e) → Leads terms q rows IsLast e
    at (inr zero') next = inl (distances.at_last e le (omega arith))
    at (inl some) next =
        let (step, h, falls) = distances.leads e le some ln in
        leads_step terms q rows IsLast e step h
        (next step.to (step_below terms rows n q low fit bases e step h)
        (omega (arith, falls, ln)) (omega (arith, falls, few)))

  -- the places whose distance is within n are those from which a walk leads to a last place
  pub leading_by_distances : (r : List Bool) → length r ≡ n
      → ((e : ℕ) → e < n → Has r e ↔ (d e ≤ n)) → IsLeadingSet terms n q rows IsLast r
  leading_by_distances r lr is = record {
    places = lr;
    lasts = λ e l last. (is e l).1 (let z = distances.lasts e l last in omega (arith, z));
    closed = closed;
    leads = λ e has. let l : e < n = rw (← lr) (has_below r e has) in let k = (is e l).0
        has in leads_at (d e) e l k (omega arith);
  } where
    closed : IsClosedBack terms q rows r
    closed from step h has =
        let lt : step.to < n = step_below terms rows n q low fit bases from step h in
        let lf : from < n = first_below terms rows n q low fit bases from (step ∷ [])
        (record { steps_exist = omega arith; steps_fit = (h, tt) }) in
        (is from lf).1 (distances.closed from step h ((is step.to lt).0 has))
