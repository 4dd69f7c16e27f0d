-- The least and the greatest minimiser, read off from bases that prove the minimum. The least is
-- the set that walks reach from the places with z < 0. The greatest has all places but those from
-- which a walk leads to one with z > 0. For a minimiser is a set that no step leaves, with all
-- places with z < 0 and none with z > 0.
use Rattle.std.proofs.Common.{◌≡◌, ◌↔◌, ℕ, ◌<◌, Bool, false, not, List, [], ◌∷◌, length, get_or, ℤ, pos, ◌≤ℤ◌, ◌<ℤ◌, sym, ap, ◌∙◌, arith, inl, inr, ⊎_elim}
use Rattle.std.proofs.lemmas.Bool.{both_ways, not-true}
use Rattle.std.proofs.lemmas.Int.{ints}
use Rattle.std.proofs.lemmas.List.{length-map, get_or-map}
use Rattle.sfm_spec.specs.Sets.{Has, complement, IsWithin}
use Rattle.sfm_spec.specs.Families.{Meaning, AreTerms, AreBases, IsMinimiser, IsLeast, IsGreatest, IsSigned, Prove, rest_at}
use Rattle.sfm_spec.specs.Walks.{Step, IsStep, Joins, IsOver, last_of}
use Rattle.sfm_spec.specs.Reach.{HoldsRoomsBack, IsClosed, IsClosedBack, IsLeadingSet, IsLeastClosed, IsReachedSet, IsUnder, Leads}
use Rattle.sfm_spec.proofs.Sets.{has_or_not}
use Rattle.sfm_spec.proofs.Duality.{minimisers_are, proved_by}
use Rattle.sfm_spec.proofs.Walks.{has_below, walk_inside, reached_within, tight_closed_set, closed_tight_set, first_below, step_below}
use Rattle.sfm_spec.proofs.Proving.{reached_under, joins_at, no_join}

-- ---- complements

-- a complement has as many places
pub length-complement : (s : List Bool) → length (complement s) ≡ length s
length-complement s = length-map s not

-- a place is in the complement where it is not in the set
pub in_complement : (s : List Bool) (e : ℕ) → e < length s → get_or s e false ≡ false
    → Has (complement s) e
in_complement s e l h = get_or-map not s e false false l ∙ ap not h

-- what is in the complement is not in the set
pub not_in_complement : (s : List Bool) (e : ℕ) → Has (complement s) e → get_or s e false ≡ false
not_in_complement s e h =
    let l : e < length s = rw (length-complement s) at (has_below (complement s) e h) in
    not-true (get_or s e false) (sym (get_or-map not s e false false l) ∙ h)

-- ---- sets that no step enters

-- a set that is closed by rooms is left by no step backwards
pub closed_back_by_rooms : (terms : List Meaning) (q : ℤ) (rows : List (List ℤ)) (s : List Bool)
    → HoldsRoomsBack terms q rows s → IsClosedBack terms q rows s
closed_back_by_rooms terms q rows s h from step (a, least, c) inside =
    rw (← c.begins) (h step.term c.in_range c.u c.v c.u_in c.v_in c.apart (rw c.ends inside)
    (a, least, c.base))

-- a place from which a step leads to a leading place is leading
pub leads_step : (terms : List Meaning) (q : ℤ) (rows : List (List ℤ)) (IsLast : ℕ → Type 0)
    (from : ℕ) (step : Step) → IsStep terms q rows from step → Leads terms q rows IsLast step.to
    → Leads terms q rows IsLast from
leads_step terms q rows IsLast from step h (inl last) =
    inr (step ∷ [], record { steps_exist = omega arith; steps_fit = (h, tt) }, last)
leads_step terms q rows IsLast from step h (inr (steps, walk, last)) =
    inr (step ∷ steps, record { steps_exist = omega arith; steps_fit = (h, walk.steps_fit) }, last)

-- ---- minimisers as closed sets

module _ (terms : List Meaning) (rows : List (List ℤ)) (n : ℕ) (q : ℤ) (shift : List ℤ)
    (low : pos 0 ≤ℤ q) (fit : AreTerms n terms) (bases : AreBases q terms rows) where
  -- a closed set with all places with z < 0 and none with z > 0 is a minimiser, and where there is
  -- one the bases prove
  pub closed_minimiser : (s : List Bool) → length s ≡ n → IsSigned n (rest_at terms rows shift) s
      → IsClosed terms q rows s → IsMinimiser terms n q shift s × Prove terms n q shift rows
  closed_minimiser s places signed closed = proved_by terms rows n q shift fit bases s places signed
      (closed_tight_set terms rows n q low fit bases s closed)

  -- where the bases prove, each minimiser is such a set
  pub minimiser_closed : Prove terms n q shift rows → (s : List Bool)
      → IsMinimiser terms n q shift s → IsSigned n (rest_at terms rows shift) s
      × IsClosed terms q rows s
  minimiser_closed prove s m =
      let (signed, tight) = (minimisers_are terms rows n q shift fit bases prove s m.places).0 m in
      (signed, tight_closed_set terms rows n q low fit bases s tight)

  -- the least closed set that has the places with z < 0 is the set that walks reach from them
  pub reached_of_least : (r : List Bool) → IsLeastClosed terms n q rows (IsUnder terms rows shift) r
      → IsReachedSet terms n q rows (IsUnder terms rows shift) r
  reached_of_least r least = from (reached_under terms rows n q shift low fit bases) where
    from : (t : List Bool) × IsReachedSet terms n q rows (IsUnder terms rows shift) t
        → IsReachedSet terms n q rows (IsUnder terms rows shift) r
    from (t, g) =
        let inside : IsWithin r t = least.within t g.places g.closed g.firsts in
        record {
          places = least.places;
          firsts = least.firsts;
          closed = least.closed;
          reached = λ e has. g.reached e (inside e has);
        }

  module _ (r : List Bool) (set : IsReachedSet terms n q rows (IsUnder terms rows shift) r) where
    -- no walk joins exactly where the reached set has no place with z > 0
    pub no_join_exactly : ((e : ℕ) → e < n → Has r e → pos 0 <ℤ rest_at terms rows shift e → ⊥)
        ↔ ((first : ℕ) (steps : List Step) → Joins terms q shift rows first steps → ⊥)
    no_join_exactly = (
      (λ none. no_join terms rows n q shift low fit bases
          (closed_minimiser r set.places
          (record { below = set.firsts; above = λ e l above has. none e l has above })
          set.closed).1),
      (λ none e l has above. let (first, steps, j, ends) = joins_at terms rows n q shift low fit
          bases e (set.reached e has) above in none first steps j),
    )

    -- with no place with z > 0 the reached set is the least minimiser, and the bases prove
    pub least_of_reached : ((e : ℕ) → e < n → Has r e → pos 0 <ℤ rest_at terms rows shift e → ⊥)
        → IsLeast terms n q shift r × Prove terms n q shift rows
    least_of_reached none = (record { minimiser = m.0; within = within }, m.1) where
      m : IsMinimiser terms n q shift r × Prove terms n q shift rows
      m = closed_minimiser r set.places
          (record { below = set.firsts; above = λ e l above has. none e l has above }) set.closed

      within : (t : List Bool) → IsMinimiser terms n q shift t → IsWithin r t
      within t h =
          let (signed, closed) = minimiser_closed m.1 t h in
          reached_within terms n q rows (IsUnder terms rows shift) r t set closed signed.below
          (first_below terms rows n q low fit bases)

  module _ (r : List Bool) (set : IsLeadingSet terms n q rows (IsOver terms rows shift) r) where
    complement_closed : IsClosed terms q rows (complement r)
    complement_closed from step h inside =
        let lt : step.to < length r = rw set.places
        (step_below terms rows n q low fit bases from step h) in
        let out : get_or r from false ≡ false = not_in_complement r from inside in
        ⊎_elim (λ has. absurd (both_ways (get_or r from false) out (set.closed from step h has)))
        (λ no'. in_complement r step.to lt no') (has_or_not r step.to)

    complement_signed : ((e : ℕ) → e < n → Has r e → rest_at terms rows shift e <ℤ pos 0 → ⊥)
        → IsSigned n (rest_at terms rows shift) (complement r)
    complement_signed none = record {
      below = λ e l below. let lr : e < length r = rw set.places l in ⊎_elim
          (λ has. absurd (none e l has below)) (λ no'. in_complement r e lr no') (has_or_not r e);
      above = λ e l above inside. both_ways (get_or r e false) (not_in_complement r e inside)
          (set.lasts e l above);
    }

    leads_out : (t : List Bool) → IsSigned n (rest_at terms rows shift) t → IsClosed terms q rows t
        → length t ≡ n → (e : ℕ) → Has t e → Has r e → ⊥
    leads_out t signed closed places e inside has = at (set.leads e has) where
      below : (d : ℕ) → Has t d → d < n
      below d h = rw (← places) (has_below t d h)

      at : Leads terms q rows (IsOver terms rows shift) e → ⊥
      at (inl over) = signed.above e (below e inside) over inside
      at (inr (steps, walk, over)) =
          let there : Has t (last_of e steps) = walk_inside terms q rows t closed e steps
          walk.steps_fit inside in
          signed.above (last_of e steps) (below (last_of e steps) there) over there

    -- with no place with z < 0 in the leading set its complement is the greatest minimiser, and the
    -- bases prove
    pub greatest_of_leading : ((e : ℕ) → e < n → Has r e → rest_at terms rows shift e <ℤ pos 0 → ⊥)
        → IsGreatest terms n q shift (complement r) × Prove terms n q shift rows
    greatest_of_leading none = (record { minimiser = m.0; within = within }, m.1) where
      m : IsMinimiser terms n q shift (complement r) × Prove terms n q shift rows
      m = closed_minimiser (complement r) (length-complement r ∙ set.places)
          (complement_signed none) complement_closed

      within : (t : List Bool) → IsMinimiser terms n q shift t → IsWithin t (complement r)
      within t h e inside =
          let (signed, closed) = minimiser_closed m.1 t h in
          let lr : e < length r = rw (set.places, ← h.places) (has_below t e inside) in
          ⊎_elim (λ has. absurd (leads_out t signed closed h.places e inside has))
          (λ no'. in_complement r e lr no') (has_or_not r e)

    -- no walk joins exactly where the leading set has no place with z < 0
    pub no_join_exactly_back : ((e : ℕ) → e < n → Has r e → rest_at terms rows shift e <ℤ pos 0 → ⊥)
        ↔ ((first : ℕ) (steps : List Step) → Joins terms q shift rows first steps → ⊥)
    no_join_exactly_back = (
      (λ none. no_join terms rows n q shift low fit bases (greatest_of_leading none).1),
      (λ none e l has below. at none e has below (set.leads e has)),
    ) where
      at : ((first : ℕ) (steps : List Step) → Joins terms q shift rows first steps → ⊥) → (e : ℕ)
          → Has r e → rest_at terms rows shift e <ℤ pos 0
          → Leads terms q rows (IsOver terms rows shift) e → ⊥
      at none e has below (inl over) = omega (arith, ints, below, over)
      at none e has below (inr (steps, walk, over)) =
          none e steps (record { walk = walk; below = below; above = over })
