-- A shortest walk to some last places falls by one at each step along the distances to them.
use Rattle.std.proofs.Common.{◌≡◌, ◌⊎◌, ℕ, zero, suc, ◌+◌, ◌<◌, ◌≤◌, List, [], ◌∷◌, length, get_or, Bool, true, false, ℤ, pos, ◌≤ℤ◌, refl, sym, ◌∙◌, arith, inl, inr}
use Rattle.std.proofs.lemmas.Bool.{cases_lt, false≢true}
use Rattle.sfm_spec.specs.Sets.{Has}
use Rattle.sfm_spec.specs.Families.{Meaning, AreTerms, AreBases}
use Rattle.sfm_spec.specs.Walks.{Step, AreSteps, IsShortestTo, last_of}
use Rattle.sfm_spec.specs.Labels.{AreDistances, FallsAlong}
use Rattle.sfm_spec.proofs.FindLabels.{labels_exist}
use Rattle.sfm_spec.proofs.Labels.{falls_within, walk_ends_below}
use Rattle.sfm_spec.proofs.Walks.{first_below, step_below}

module _ (terms : List Meaning) (rows : List (List ℤ)) (n : ℕ) (q : ℤ) (low : pos 0 ≤ℤ q)
    (fit : AreTerms n terms) (bases : AreBases q terms rows) (IsLast : ℕ → Type 0) where
  module _ (d : ℕ → ℕ) (distances : AreDistances terms n q rows IsLast d) where
    -- from each place as many steps as its distance lead to a last place
    steps_exist : (fuel : ℕ) (e : ℕ) → e < n → d e ≤ n → d e ≤ fuel → (steps : List Step)
        × AreSteps terms q rows e steps × (length steps ≡ d e) × IsLast (last_of e steps)
    steps_exist zero e le ln few =
        ([], tt, omega (arith, few), distances.at_last e le (omega arith))
    steps_exist (suc fuel) e le ln few = at (cases_lt 0 (d e)) (steps_exist fuel) where
      at : (0 < d e) ⊎ (d e ≤ 0) → ((e : ℕ) → e < n → d e ≤ n → d e ≤ fuel → (steps : List Step)
          × AreSteps terms q rows e steps × (length steps ≡ d e) × IsLast (last_of e steps))
          → (steps : List Step) × AreSteps terms q rows e steps × (length steps ≡ d e)
          × IsLast (last_of e steps)
      at (inr none) next = ([], tt, omega (arith, none), distances.at_last e le (omega arith))
      at (inl some) next =
          let (step, h, falls) = distances.leads e le some ln in
          let (steps, fits, count, arrives) = next step.to
          (step_below terms rows n q low fit bases e step h) (omega (arith, falls, ln))
          (omega (arith, falls, few)) in
          (step ∷ steps, (h, fits), omega (arith, count, falls), arrives)

    -- where steps lead to a place with a distance there is one at their beginning
    within_back : (from : ℕ) (steps : List Step) → AreSteps terms q rows from steps
        → d (last_of from steps) ≤ n → d from ≤ n
    within_back from [] h l = l
    within_back from (step ∷ steps) h l =
        distances.closed from step h.0 (within_back step.to steps h.1 l)

    -- steps that are no more than the distance falls over them all fall by one each
    falls_each : (from : ℕ) (steps : List Step) → AreSteps terms q rows from steps
        → length steps + d (last_of from steps) ≤ d from → FallsAlong d from steps
    falls_each from [] h l = tt
    falls_each from (step ∷ steps) h l =
        let one = distances.falls from step h.0 in
        let rest = falls_within terms q rows d distances.falls step.to steps h.1 in
        (omega (arith, one, rest, l), falls_each step.to steps h.1 (omega (arith, one, l)))

    -- a shortest walk from a place that is no last one falls along the distances
    pub falls_by_shortest : (first : ℕ) (steps : List Step)
        → IsShortestTo terms q rows IsLast first steps → (IsLast first → ⊥)
        → FallsAlong d first steps
    falls_by_shortest first steps shortest apart =
        let lf : first < n = first_below terms rows n q low fit bases first steps shortest.walk in
        let zero' = distances.lasts (last_of first steps)
        (walk_ends_below terms rows n q low fit bases first steps shortest.walk)
        shortest.arrives in
        let within = within_back first steps shortest.walk.steps_fit (omega (arith, zero')) in
        let (other, fits, count, arrives) = steps_exist (d first) first lf within (omega arith) in
        let fewest = shortest.fewest other
        (record { steps_exist = omega (arith, count, some); steps_fit = fits }) arrives in
        falls_each first steps shortest.walk.steps_fit (omega (arith, fewest, count, zero')) where
          far : (0 < d first) ⊎ (d first ≤ 0) → 0 < d first
          far (inl some) = some
          far (inr none) =
              absurd (apart (distances.at_last first
              (first_below terms rows n q low fit bases first steps shortest.walk)
              (omega (arith, none))))

          some : 0 < d first
          some = far (cases_lt 0 (d first))

  -- there are such distances
  pub shortest_falls : ((e : ℕ) → IsLast e ⊎ (IsLast e → ⊥)) → (first : ℕ) (steps : List Step)
      → IsShortestTo terms q rows IsLast first steps → (IsLast first → ⊥) → (d : ℕ → ℕ)
      × FallsAlong d first steps
  shortest_falls decided first steps shortest apart =
      let (d, l, labels) = labels_exist terms rows n q low fit bases IsLast decided in
      (d, falls_by_shortest d labels.distances first steps shortest apart)

-- a set has a place or not
pub has_or_not : (s : List Bool) (e : ℕ) → Has s e ⊎ (Has s e → ⊥)
has_or_not s e = at (get_or s e false) refl where
  at : (b : Bool) → get_or s e false ≡ b → Has s e ⊎ (Has s e → ⊥)
  at true is = inl is
  at false is = inr (λ has. false≢true (sym is ∙ has))
