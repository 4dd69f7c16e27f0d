-- Sets that no step leaves: they are those of which each term's part is tight.
use Rattle.std.proofs.Common.{◌≡◌, ◌⊎◌, ℕ, zero, suc, ◌<◌, Bool, false, List, [], ◌∷◌, ◌++◌, length, get_or, set, ℤ, pos, ◌≤ℤ◌, refl, sym, ◌∙◌, arith, inl, inr, ⊎_elim}
use Rattle.std.proofs.lemmas.Bool.{cases_lt, false≢true}
use Rattle.std.proofs.lemmas.List.{length-append, length-map, get_or-map, get_or_past}
use Rattle.sfm_spec.specs.Sets.{Has, part, IsWithin}
use Rattle.sfm_spec.specs.Terms.{times, IsBase, IsTight, TightLaws}
use Rattle.sfm_spec.specs.Families.{Meaning, IsTerm, AreTerms, AreBases, AreTight}
use Rattle.sfm_spec.specs.Walks.{Step, term_at, base_at, IsStep, AreSteps, IsWalk, last_of}
use Rattle.sfm_spec.specs.Reach.{HoldsRooms, IsClosed, IsReached, IsReachedSet}
use Rattle.sfm_spec.proofs.Scaled.{family-times, submodular-times}
use Rattle.sfm_spec.proofs.Tight.{tight_laws}

-- ---- one term of the list

-- term i is a term
pub terms-at : (n : ℕ) (terms : List Meaning) (i : ℕ) → AreTerms n terms → i < length terms
    → IsTerm n (term_at terms i)
terms-at n [] i h l = absurd (omega arith)
terms-at n (t ∷ ts) zero h l = h.0
terms-at n (t ∷ ts) (suc i) h l = terms-at n ts i h.1 (omega arith)

-- row i is a base of term i
pub bases-at : (q : ℤ) (terms : List Meaning) (rows : List (List ℤ)) (i : ℕ) → AreBases q terms rows
    → i < length terms
    → (length (base_at rows i) ≡ length (term_at terms i).places)
    × IsBase (times q (term_at terms i).value) (base_at rows i)
bases-at q [] rows i h l = absurd (omega arith)
bases-at q (t ∷ ts) [] i h l = absurd h
bases-at q (t ∷ ts) (x ∷ rows) zero h l = (h.0, h.1)
bases-at q (t ∷ ts) (x ∷ rows) (suc i) h l = bases-at q ts rows i h.2 (omega arith)

tight-at : (q : ℤ) (terms : List Meaning) (rows : List (List ℤ)) (s : List Bool) (i : ℕ)
    → AreTight q terms rows s → i < length terms
    → IsTight (times q (term_at terms i).value) (base_at rows i) (part (term_at terms i).places s)
tight-at q [] rows s i h l = absurd (omega arith)
tight-at q (t ∷ ts) [] s i h l = absurd h
tight-at q (t ∷ ts) (x ∷ rows) s zero h l = h.0
tight-at q (t ∷ ts) (x ∷ rows) s (suc i) h l = tight-at q ts rows s i h.1 (omega arith)

tight-from_at : (q : ℤ) (terms : List Meaning) (rows : List (List ℤ)) (s : List Bool)
    → AreBases q terms rows
    → ((i : ℕ) → i < length terms → IsTight (times q (term_at terms i).value) (base_at rows i)
    (part (term_at terms i).places s)) → AreTight q terms rows s
tight-from_at q [] rows s b h = tt
tight-from_at q (t ∷ ts) [] s b h = absurd b
tight-from_at q (t ∷ ts) (x ∷ rows) s b h =
    (h 0 (omega arith), tight-from_at q ts rows s b.2 (λ i l. h (suc i) (omega arith)))

-- a place of a part
pub part-at : (places : List ℕ) (s : List Bool) (u : ℕ) → u < length places
    → get_or (part places s) u false ≡ get_or s (get_or places u 0) false
part-at places s u h = get_or-map (λ e. get_or s e false) places u 0 false h

-- each of the first k fulfils P, unless Q
pub each_or : (k : ℕ) (P : ℕ → Type 0) (Q : Type 0) → ((i : ℕ) → i < k → P i ⊎ Q)
    → ((i : ℕ) → i < k → P i) ⊎ Q
each_or zero P Q f = inl (λ i l. absurd (omega arith))
each_or (suc k) P Q f = both (each_or k P Q (λ i l. f i (omega arith))) (f k (omega arith)) where
  more : ((i : ℕ) → i < k → P i) → P k → (i : ℕ) → i < suc k → P i
  more g h i l = ⊎_elim (λ lt. g i lt) (λ le. let e : k ≡ i = omega arith in rw (← e) h)
      (cases_lt i k)

  both : ((i : ℕ) → i < k → P i) ⊎ Q → P k ⊎ Q → ((i : ℕ) → i < suc k → P i) ⊎ Q
  both (inr z) h = inr z
  both (inl g) (inr z) = inr z
  both (inl g) (inl h) = inl (more g h)

-- what is in a set is one of its places
pub has_below : (s : List Bool) (e : ℕ) → Has s e → e < length s
has_below s e h = ⊎_elim (λ l. l)
    (λ past. absurd (false≢true (sym (get_or_past s e false past) ∙ h))) (cases_lt e (length s))

-- ---- sets that no step leaves

-- a set closed by rooms is left by no step
pub closed_by_rooms : (terms : List Meaning) (q : ℤ) (rows : List (List ℤ)) (s : List Bool)
    → HoldsRooms terms q rows s → IsClosed terms q rows s
closed_by_rooms terms q rows s h from step (a, least, c) inside =
    rw (← c.ends) (h step.term c.in_range c.u c.v c.u_in c.v_in c.apart (rw c.begins inside)
    (a, least, c.base))

-- a set that no step leaves is closed by rooms
pub rooms_by_closed : (terms : List Meaning) (q : ℤ) (rows : List (List ℤ)) (s : List Bool)
    → IsClosed terms q rows s → HoldsRooms terms q rows s
rooms_by_closed terms q rows s h i li u v lu lv ne inside (a, least, base) =
    h (get_or (term_at terms i).places u 0)
    (record { to = get_or (term_at terms i).places v 0; term = i }) (
      a,
      least,
      record {
        in_range = li;
        u = u;
        v = v;
        u_in = lu;
        v_in = lv;
        begins = refl;
        ends = refl;
        apart = ne;
        base = base;
      },
    ) inside

-- one step more at the end of a walk
pub steps_push : (terms : List Meaning) (q : ℤ) (rows : List (List ℤ)) (at : ℕ) (steps : List Step)
    (step : Step) → AreSteps terms q rows at steps → IsStep terms q rows (last_of at steps) step
    → AreSteps terms q rows at (steps ++ step ∷ [])
steps_push terms q rows at [] step fits h = (h, tt)
steps_push terms q rows at (s ∷ ss) step fits h =
    (fits.0, steps_push terms q rows s.to ss step fits.1 h)

-- where a walk with one step more ends
pub last-push : (at : ℕ) (steps : List Step) (step : Step)
    → last_of at (steps ++ step ∷ []) ≡ step.to
last-push at [] step = refl
last-push at (s ∷ ss) step = last-push s.to ss step

-- what a step leads to from a reached place is reached
pub reached_step : (terms : List Meaning) (q : ℤ) (rows : List (List ℤ)) (IsFirst : ℕ → Type 0)
    (from : ℕ) (step : Step) → IsStep terms q rows from step → IsReached terms q rows IsFirst from
    → IsReached terms q rows IsFirst step.to
reached_step terms q rows IsFirst from step h (inl first) =
    inr (from, step ∷ [], first, record { steps_exist = omega arith; steps_fit = (h, tt) }, refl)
reached_step terms q rows IsFirst from step h (inr (first, steps, is_first, walk, ends)) = inr (
  first,
  steps ++ step ∷ [],
  is_first,
  record {
    steps_exist = omega (arith, length-append steps (step ∷ []));
    steps_fit = steps_push terms q rows first steps step walk.steps_fit (rw ends h);
  },
  last-push first steps step,
)

-- a closed set has, with the first place of a walk, its last
pub walk_inside : (terms : List Meaning) (q : ℤ) (rows : List (List ℤ)) (s : List Bool)
    → IsClosed terms q rows s → (from : ℕ) (steps : List Step) → AreSteps terms q rows from steps
    → Has s from → Has s (last_of from steps)
walk_inside terms q rows s closed from [] h inside = inside
walk_inside terms q rows s closed from (step ∷ steps) h inside =
    walk_inside terms q rows s closed step.to steps h.1 (closed from step h.0 inside)

-- a set of reached places lies within each closed set that has the first places
pub reached_within : (terms : List Meaning) (n : ℕ) (q : ℤ) (rows : List (List ℤ))
    (IsFirst : ℕ → Type 0) (r s : List Bool) → IsReachedSet terms n q rows IsFirst r
    → IsClosed terms q rows s → ((e : ℕ) → e < n → IsFirst e → Has s e)
    → ((e : ℕ) (steps : List Step) → IsWalk terms q rows e steps → e < n) → IsWithin r s
reached_within terms n q rows IsFirst r s set closed firsts below e has =
    at (set.reached e has) where
      at : IsReached terms q rows IsFirst e → Has s e
      at (inl first) = firsts e (rw (← set.places) (has_below r e has)) first
      at (inr (first, steps, is_first, walk, ends)) =
          rw (← ends) (walk_inside terms q rows s closed first steps walk.steps_fit
          (firsts first (below first steps walk) is_first))

module _ (terms : List Meaning) (rows : List (List ℤ)) (n : ℕ) (q : ℤ) (low : pos 0 ≤ℤ q)
    (fit : AreTerms n terms) (bases : AreBases q terms rows) where
  laws-at : (i : ℕ) → i < length terms
      → TightLaws (times q (term_at terms i).value) (base_at rows i)
  laws-at i l =
      let t = terms-at n terms i fit l in
      let b = bases-at q terms rows i bases l in
      tight_laws (family-times (length (term_at terms i).places) q (term_at terms i).value t.family)
      (submodular-times (length (term_at terms i).places) q (term_at terms i).value low
      t.submodular) b.0 b.1

  -- where the part of s in each term is tight, no step leaves s
  pub tight_closed_set : (s : List Bool) → AreTight q terms rows s → IsClosed terms q rows s
  tight_closed_set s tight from step (a, least, h) inside =
      let i = step.term in
      let t = term_at terms i in
      let b = bases-at q terms rows i bases h.in_range in
      let holds = ((laws-at i h.in_range).exact (part t.places s)
      (length-map t.places (λ e. get_or s e false) ∙ sym b.0)).0
      (tight-at q terms rows s i tight h.in_range) in
      let hu : Has (part t.places s) h.u = part-at t.places s h.u h.u_in ∙ (rw h.begins inside) in
      let hv : Has (part t.places s) h.v = holds h.u h.v (rw b.0 h.u_in) (rw b.0 h.v_in) h.apart hu
      (a, least, h.base) in
      rw (← h.ends) (sym (part-at t.places s h.v h.v_in) ∙ hv)

  -- a walk begins at a place of the ground
  pub first_below : (first : ℕ) (steps : List Step) → IsWalk terms q rows first steps → first < n
  first_below first [] h = absurd (omega (arith, h.steps_exist))
  first_below first (step ∷ steps) h =
      let s = h.steps_fit.0.2 in
      rw (← s.begins) ((terms-at n terms step.term fit s.in_range).placed.below s.u s.u_in)

  -- a step ends at a place of the ground
  pub step_below : (from : ℕ) (step : Step) → IsStep terms q rows from step → step.to < n
  step_below from step (a, least, s) =
      rw (← s.ends) ((terms-at n terms step.term fit s.in_range).placed.below s.v s.v_in)

  -- where no step leaves s, its part in each term is tight
  pub closed_tight_set : (s : List Bool) → IsClosed terms q rows s → AreTight q terms rows s
  closed_tight_set s closed = tight-from_at q terms rows s bases at where
    at : (i : ℕ) → i < length terms → IsTight (times q (term_at terms i).value) (base_at rows i)
        (part (term_at terms i).places s)
    at i l =
        let t = term_at terms i in
        let b = bases-at q terms rows i bases l in
        ((laws-at i l).exact (part t.places s)
        (length-map t.places (λ e. get_or s e false) ∙ sym b.0)).1
        (λ u v ku kv ne hu room. let lu : u < length t.places = rw (← b.0) ku in let lv : v < length
        t.places = rw (← b.0) kv in
        part-at t.places s v lv ∙ rooms_by_closed terms q rows s closed i l u v lu lv ne
        (sym (part-at t.places s u lu) ∙ hu) room)
