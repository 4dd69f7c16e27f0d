-- Few walks: a move along a walk that meets some lower bounds on distances and on least steps
-- leaves them lower bounds, and makes z zero at an end of the walk, or lets the bound on a step of
-- it rise. So the potential of the bounds rises, and it is never greater than the number of few
-- walks.
use Rattle.std.proofs.Common.{◌≡◌, ◌≢◌, ◌⊎◌, ℕ, zero, suc, ◌+◌, ◌*◌, ◌<◌, ◌≤◌, List, [], ◌∷◌, length, get_or, ℤ, pos, negsuc, neg_ℤ, ◌+ℤ◌, ◌-ℤ◌, ◌≤ℤ◌, ◌<ℤ◌, refl, sym, ap, subst, ◌∙◌, arith, inl, inr}
use Rattle.std.proofs.lemmas.Bool.{cases_lt, cases_eq, eq-eqb, ne_eqb}
use Rattle.std.proofs.lemmas.Int.{ints}
use Rattle.sfm_spec.specs.Terms.{times, IsBase, exchanged}
use Rattle.sfm_spec.specs.Families.{Meaning, AreTerms, AreBases, rest_at}
use Rattle.sfm_spec.specs.Walks.{Step, term_at, base_at, CanMove, IsStep, AreSteps, IsOver, AllCanMove, last_of, few_walks}
use Rattle.sfm_spec.specs.Labels.{FallsAlong, FollowsLabels, Passes, HasFull, code_of, step_code}
use Rattle.sfm_spec.specs.Progress.{AreLowerBounds, IsMoveAtBounds, sum_below, rank_of, zero_flag, potential}
use Rattle.sfm_spec.proofs.Walks.{terms-at, bases-at, first_below, step_below}
use Rattle.sfm_spec.proofs.Order.{moved}
use Rattle.sfm_spec.proofs.MoveOrder.{Follows, AtStep, follow, family, law, base, in_order, row_is_moved}
use Rattle.sfm_spec.proofs.NewSteps.{IsLabelled, EachMove, IsMove, labels_kept_all, filled_gone}
use Rattle.sfm_spec.proofs.Gain.{rest_moved}
use Rattle.sfm_spec.proofs.Labels.{falls_all, falls_within, walk_ends_below}
use Rattle.sfm_spec.proofs.Counts.{sum_below-le, sum_below-lt, sum_below-bound, code_below, code_same, rank_bound}
use Rattle.sfm_spec.proofs.Changed.{changed, changed-here, each_changed, bounds_changed}

-- along a walk of least steps the distance falls by one at each step
pub falls_along : (terms : List Meaning) (d l : ℕ → ℕ) (from : ℕ) (steps : List Step)
    → FollowsLabels terms d l from steps → FallsAlong d from steps
falls_along terms d l from [] h = tt
falls_along terms d l from (step ∷ steps) h = (h.0, falls_along terms d l step.to steps h.2)

-- the step stands on the walk, and begins at the place
abbrev OnWalk : ℕ → List Step → ℕ → Step → Type 0
OnWalk from [] at step = ⊥
OnWalk from (s ∷ ss) at step = ((from ≡ at) × (s ≡ step)) ⊎ OnWalk s.to ss at step

passes_on : (from : ℕ) (steps : List Step) (at : ℕ) (step : Step) → OnWalk from steps at step
    → Passes from steps at
passes_on from [] at step on = on
passes_on from (s ∷ ss) at step (inl (e, es)) = inl e
passes_on from (s ∷ ss) at step (inr on) = inr (passes_on s.to ss at step on)

-- where z stays zero the flag does not fall
pub flag_kept : (z w : ℤ) → (z ≡ pos 0 → w ≡ pos 0) → zero_flag z ≤ zero_flag w
flag_kept (pos zero) w h = rw (h refl) (omega arith)
flag_kept (pos (suc k)) w h = omega arith
flag_kept (negsuc k) w h = omega arith

-- where z comes to be zero it rises
pub flag_rises : (z w : ℤ) → z ≢ pos 0 → w ≡ pos 0 → zero_flag z < zero_flag w
flag_rises (pos zero) w ne e = absurd (ne refl)
flag_rises (pos (suc k)) w ne e = rw e (omega arith)
flag_rises (negsuc k) w ne e = rw e (omega arith)

flag_bound : (z : ℤ) → zero_flag z ≤ 1
flag_bound (pos zero) = omega arith
flag_bound (pos (suc k)) = omega arith
flag_bound (negsuc k) = omega arith

-- no summand falls: the potential does not
pub potential-le : (terms : List Meaning) (n : ℕ) (shift : List ℤ) (rows : List (List ℤ))
    (d l d' l' : ℕ → ℕ)
    → ((e : ℕ) → e < n → rank_of (n * length terms + 1) (d e) (l e) ≤ rank_of (n * length terms + 1)
    (d' e) (l' e)) → potential terms n shift rows d l ≤ potential terms n shift rows d' l'
unfolding potential
potential-le terms n shift rows d l d' l' h =
    sum_below-le n (λ e. zero_flag (rest_at terms rows shift e) + rank_of (n * length terms + 1)
    (d e) (l e)) (λ e. zero_flag (rest_at terms rows shift e) + rank_of (n * length terms + 1)
    (d' e) (l' e))
    (λ e le. let r = h e le in omega (arith, r))

-- the potential of lower bounds is never greater than the number of few walks
pub potential_bounded : (terms : List Meaning) (n : ℕ) (q : ℤ) (shift : List ℤ)
    (rows : List (List ℤ)) (IsLast : ℕ → Type 0) (d l : ℕ → ℕ)
    → AreLowerBounds terms n q rows IsLast d l
    → potential terms n shift rows d l ≤ few_walks n (length terms)
unfolding potential few_walks
potential_bounded terms n q shift rows IsLast d l bounds =
    let s = sum_below-bound n (λ e. zero_flag (rest_at terms rows shift e) + rank_of k (d e) (l e))
    (1 + (n + 1) * k)
    (λ e le. let f = flag_bound (rest_at terms rows shift e) in let r = rank_bounded e le
    (cases_lt n (d e)) in omega (arith, f, r)) in
    omega (arith, s) where
      k : ℕ
      k = n * length terms + 1

      rank_bounded : (e : ℕ) → e < n → (n < d e) ⊎ (d e ≤ n) → rank_of k (d e) (l e) ≤ (n + 1) * k
      rank_bounded e le (inr near) =
          rank_bound k n (d e) (l e) near (let c = bounds.codes e le in omega (arith, c))
      rank_bounded e le (inl more) =
          let b = bounds.bounded e le in
          let is : d e ≡ n + 1 = omega (arith, b, more) in
          let z = bounds.far e le is in
          let f = ap (λ y. y * k) is in
          omega (arith, z, f)

module _ (terms : List Meaning) (rows : List (List ℤ)) (n : ℕ) (q : ℤ) (shift : List ℤ)
    (low : pos 0 ≤ℤ q) (fit : AreTerms n terms) (bases : AreBases q terms rows) (d l : ℕ → ℕ) where
  module _ (after : List (List ℤ)) (move : IsMoveAtBounds terms n q shift rows after d l) where
    abbrev first : ℕ
    first = move.along.first

    abbrev steps : List Step
    steps = move.along.steps

    abbrev a : ℤ
    a = move.along.a

    can : AllCanMove terms q rows first steps a
    can = move.along.by_steps

    one : pos 1 ≤ℤ a
    one = move.along.some

    few : (other : List Step) → AreSteps terms q rows first other
        → last_of first other ≡ last_of first steps → length steps ≤ length other
    few other fits same =
        let mine = falls_all d first steps (falls_along terms d l first steps move.follows) in
        let theirs = falls_within terms q rows d move.bounds.falls first other fits in
        let e = ap d same in
        omega (arith, mine, theirs, e)

    -- ---- the labels of before, after the move

    module _ (i : ℕ) (li : i < length terms) where
      abbrev place : ℕ → ℕ
      place u = get_or (term_at terms i).places u 0

      sized : length (base_at rows i) ≡ length (term_at terms i).places
      sized = (bases-at q terms rows i bases li).0

      abbrev Labelled : List ℤ → Type 0
      Labelled x = IsLabelled (length (base_at rows i)) (times q (term_at terms i).value) x
          (λ u. d (place u)) (λ u. l (place u)) (λ v. code_of (length terms) (place v) i)

      old_labels : Labelled (base_at rows i)
      old_labels u v ku kv ne room =
          let step : Step = record { to = place v; term = i } in
          let h : IsStep terms q rows (place u)
          step = (
            room.0,
            room.1,
            record {
              in_range = li;
              u = u;
              v = v;
              u_in = rw (← sized) ku;
              v_in = rw (← sized) kv;
              begins = refl;
              ends = refl;
              apart = ne;
              base = room.2;
            },
          ) in
          (move.bounds.falls (place u) step h, move.bounds.least (place u) step h)

      each_labelled : (from : ℕ) (steps : List Step) (moves : List (ℕ × ℕ))
          → Follows terms rows n q low fit bases a one i from steps moves
          → FollowsLabels terms d l from steps
          → EachMove (λ u v. (d (place u) ≡ d (place v) + 1)
          × (l (place u) ≡ code_of (length terms) (place v) i)) moves
      each_labelled from [] moves f h = rw f tt
      each_labelled from (s ∷ ss) moves (inl (ne, f)) h = each_labelled s.to ss moves f h.2
      each_labelled from (s ∷ ss) moves (inr (m, ms, eq, at, f)) h =
          let falls : d (place m.0) ≡ d (place m.1) + 1 = rw (at.begins, at.ends) h.0 in
          let code : l (place m.0) ≡ code_of (length terms) (place m.1)
          i = rw (at.begins, at.ends, ← at.same) h.1 in
          rw eq ((falls, code), each_labelled s.to ss ms f h.2)

      new_labels : Labelled (base_at after i)
      new_labels = from (follow terms rows n q low fit bases a one i first steps can) where
        from : (moves : List (ℕ × ℕ)) × Follows terms rows n q low fit bases a one i first steps
            moves → Labelled (base_at after i)
        from (ms, f) = subst (λ x. Labelled x)
            (sym (row_is_moved terms rows n q low fit bases a one i li first steps ms after f
            move.along.moved))
            (labels_kept_all (family terms rows n q low fit bases a one i li)
            (law terms rows n q low fit bases a one i li)
            (base terms rows n q low fit bases a one i li) a one ms
            (λ u. d (place u)) (λ u. l (place u)) (λ v. code_of (length terms) (place v) i)
            (in_order terms rows n q low fit bases a one i li first steps ms can f few) old_labels
            (each_labelled first steps ms f move.follows))

    -- along each step that there is after the move the distances of before fall by at most one, and
    -- where they do fall, its code is at least the least step of before
    pub step_after : (from : ℕ) (step : Step) → IsStep terms q after from step
        → (d from ≤ d step.to + 1) × (d from ≡ d step.to + 1 → l from ≤ step_code terms step)
    step_after from step (b, least, c) =
        let i = step.term in
        let s = sized i c.in_range in
        let h = new_labels i c.in_range c.u c.v (rw s c.u_in) (rw s c.v_in) c.apart
        (b, least, c.base) in
        rw (c.begins, c.ends) at h

    -- ---- a step that is moved to its capacity

    full_step : (from : ℕ) (steps : List Step) → AllCanMove terms q rows from steps a
        → FollowsLabels terms d l from steps → HasFull terms q rows from steps a
        → (at : ℕ) × (step : Step) × OnWalk from steps at step × CanMove terms q rows at step a
        × (CanMove terms q rows at step (a +ℤ pos 1) → ⊥) × (d at ≡ d step.to + 1)
        × (l at ≡ step_code terms step)
    full_step from [] h g full = absurd full
    full_step from (s ∷ ss) h g (inl full) = (from, s, inl (refl, refl), h.0, full, g.0, g.1)
    full_step from (s ∷ ss) h g (inr full) =
        let (at, step, on, c, full', falls, code) = full_step s.to ss h.1 g.2 full in
        (at, step, inr on, c, full', falls, code)

    move_of : (i from : ℕ) (steps : List Step) (moves : List (ℕ × ℕ)) (at : ℕ) (step : Step)
        → Follows terms rows n q low fit bases a one i from steps moves → OnWalk from steps at step
        → step.term ≡ i
        → (m : ℕ × ℕ) × IsMove m.0 m.1 moves × AtStep terms rows n q low fit bases a one i at step m
    move_of i from [] moves at step f on same = absurd on
    move_of i from (s ∷ ss) moves at step (inl (ne, f)) (inl (e, es)) same =
        absurd (ne (ap (λ z. z.term) es ∙ same))
    move_of i from (s ∷ ss) moves at step (inl (ne, f)) (inr on) same =
        move_of i s.to ss moves at step f on same
    move_of i from (s ∷ ss) moves at step (inr (m, ms, eq, here, f)) (inl (e, es)) same =
        (m, rw eq (inl (refl, refl)), rw (← e, ← es) here)
    move_of i from (s ∷ ss) moves at step (inr (m, ms, eq, here, f)) (inr on) same =
        let (m', is', there) = move_of i s.to ss ms at step f on same in
        (m', rw eq (inr is'), there)

    -- is no step any more
    pub full_gone : (at : ℕ) (step : Step) → OnWalk first steps at step
        → CanMove terms q rows at step a → (CanMove terms q rows at step (a +ℤ pos 1) → ⊥)
        → IsStep terms q after at step → ⊥
    full_gone at step on c full (b, least, c') =
        from (follow terms rows n q low fit bases a one step.term first steps can) where
          i : ℕ
          i = step.term

          from : (moves : List (ℕ × ℕ)) × Follows terms rows n q low fit bases a one step.term first
              steps moves → ⊥
          from (ms, f) = by (move_of step.term first steps ms at step f on refl) where
            by : (m : ℕ × ℕ) × IsMove m.0 m.1 ms
                × AtStep terms rows n q low fit bases a one step.term at step m → ⊥
            by (m, is', there) =
                let s = sized step.term c.in_range in
                let places = (terms-at n terms step.term fit c.in_range).placed in
                let eu : c'.u ≡ m.0 = places.distinct c'.u m.0 c'.u_in there.u_in
                (c'.begins ∙ sym there.begins) in
                let ev : c'.v ≡ m.1 = places.distinct c'.v m.1 c'.v_in there.v_in
                (c'.ends ∙ sym there.ends) in
                let row = row_is_moved terms rows n q low fit bases a one step.term c.in_range first
                steps ms after f move.along.moved in
                let room : IsBase (times q (term_at terms step.term).value)
                (exchanged (moved (base_at rows step.term) a ms) m.0 m.1 b) =
                rw (eu, ev, row) at c'.base in
                filled_gone (family terms rows n q low fit bases a one step.term c.in_range)
                (law terms rows n q low fit bases a one step.term c.in_range)
                (base terms rows n q low fit bases a one step.term c.in_range) a one ms
                m.0 m.1 (rw s there.u_in) (rw s there.v_in) there.apart
                (in_order terms rows n q low fit bases a one step.term c.in_range first steps ms can
                f few) is'
                (λ more. full (record {
                  in_range = c.in_range;
                  u = m.0;
                  v = m.1;
                  u_in = there.u_in;
                  v_in = there.v_in;
                  begins = there.begins;
                  ends = there.ends;
                  apart = there.apart;
                  base = more;
                }))
                (b, least, room)

    -- ---- the ends of the walk

    ends_apart : first ≢ last_of first steps
    ends_apart same =
        let b = move.along.shortest.below in
        let c : pos 0 <ℤ rest_at terms rows shift first = rw same
        move.along.shortest.shortest.arrives in
        omega (arith, ints, b, c)

    first_in : first < n
    first_in = first_below terms rows n q low fit bases first steps
        move.along.shortest.shortest.walk

    last_in : last_of first steps < n
    last_in = walk_ends_below terms rows n q low fit bases first steps
        move.along.shortest.shortest.walk

    at_first : rest_at terms after shift first ≡ (rest_at terms rows shift first +ℤ a)
    at_first =
        let r = rest_moved terms rows n q low fit bases first steps a one can shift after
        move.along.moved first in
        let c = rw (
          eq-eqb first first refl,
          ne_eqb (last_of first steps) first (λ e. ends_apart (sym e)),
        ) at r in
        omega (arith, ints, c)

    at_last_place : rest_at terms after shift
        (last_of first steps) ≡ (rest_at terms rows shift (last_of first steps) -ℤ a)
    at_last_place =
        let r = rest_moved terms rows n q low fit bases first steps a one can shift after
        move.along.moved (last_of first steps) in
        let c = rw (
          eq-eqb (last_of first steps) (last_of first steps) refl,
          ne_eqb first (last_of first steps) ends_apart,
        ) at r in
        omega (arith, ints, c)

    at_other : (e : ℕ) → first ≢ e → last_of first steps ≢ e
        → rest_at terms after shift e ≡ rest_at terms rows shift e
    at_other e nf nl =
        let r = rest_moved terms rows n q low fit bases first steps a one can shift after
        move.along.moved e in
        let c = rw (ne_eqb first e nf, ne_eqb (last_of first steps) e nl) at r in
        omega (arith, ints, c)

    -- no place comes to have z > 0
    pub over_before : (e : ℕ) → IsOver terms after shift e → IsOver terms rows shift e
    over_before e over = at (cases_eq first e) (cases_eq (last_of first steps) e) where
      at : (first ≡ e) ⊎ (first ≢ e) → (last_of first steps ≡ e) ⊎ (last_of first steps ≢ e)
          → IsOver terms rows shift e
      at (inl same) o = let r = at_first in let u = move.along.by_first in let over' : pos
          0 <ℤ rest_at terms after shift first =
          rw same over in absurd (omega (arith, ints, r, u, over'))
      at (inr nf) (inl same) = rw (← same) move.along.shortest.shortest.arrives
      at (inr nf) (inr nl) = rw (← at_other e nf nl) over

    -- and where z is 0 it stays so
    pub zero_kept : (e : ℕ) → rest_at terms rows shift e ≡ pos 0
        → rest_at terms after shift e ≡ pos 0
    zero_kept e z = at (cases_eq first e) (cases_eq (last_of first steps) e) where
      at : (first ≡ e) ⊎ (first ≢ e) → (last_of first steps ≡ e) ⊎ (last_of first steps ≢ e)
          → rest_at terms after shift e ≡ pos 0
      at (inl same) o = let b = move.along.shortest.below in let z' : rest_at terms rows shift
          first ≡ pos 0 = rw same z in absurd (omega (arith, ints, b, z'))
      at (inr nf) (inl same) = let b = move.along.shortest.shortest.arrives in let z' : rest_at
          terms rows shift (last_of first steps) ≡ pos 0 =
          rw same z in absurd (omega (arith, ints, b, z'))
      at (inr nf) (inr nl) = at_other e nf nl ∙ z

    -- the bounds are lower bounds still
    pub bounds_after : AreLowerBounds terms n q after (IsOver terms after shift) d l
    bounds_after = record {
      lasts = λ e le over. move.bounds.lasts e le (over_before e over);
      falls = λ from step h. (step_after from step h).0;
      least = λ from step h. (step_after from step h).1;
      bounded = move.bounds.bounded;
      codes = move.bounds.codes;
      far = move.bounds.far;
    }

    flags : (e : ℕ) → zero_flag (rest_at terms rows shift e) ≤ zero_flag
        (rest_at terms after shift e)
    flags e = flag_kept (rest_at terms rows shift e) (rest_at terms after shift e) (zero_kept e)

    -- no bound on a distance is greater on the walk than at its first place
    near_walk : (from : ℕ) (steps : List Step) → FollowsLabels terms d l from steps → d from ≤ n
        → (at : ℕ) (step : Step) → OnWalk from steps at step → d at ≤ n
    near_walk from [] h near at step on = absurd on
    near_walk from (s ∷ ss) h near at step (inl (e, es)) = let q = ap d e in omega (arith, q, near)
    near_walk from (s ∷ ss) h near at step (inr on) =
        near_walk s.to ss h.2 (let f = h.0 in omega (arith, f, near)) at step on

    -- a step of the walk begins at the place, and after the move there are bounds of which that on
    -- its least step is greater
    abbrev Raised : Type 0
    Raised = (at : ℕ) × Passes first steps at × (at < n) × (l' : ℕ → ℕ)
        × AreLowerBounds terms n q after (IsOver terms after shift) d l' × ((e : ℕ) → l e ≤ l' e)
        × (l at < l' at)

    raised_at : (at : ℕ) (step : Step) → OnWalk first steps at step → CanMove terms q rows at step a
        → (CanMove terms q rows at step (a +ℤ pos 1) → ⊥) → l at ≡ step_code terms step → Raised
    raised_at at step on c full' code = (
      at,
      passes_on first steps at step on,
      le,
      raised,
      bounds_changed terms n q after (IsOver terms after shift) d l at (l at + 1) bounds_after
          near small later,
      up,
      let w = changed-here at (l at + 1) l in omega (arith, w),
    ) where
      h : IsStep terms q rows at step
      h = (a, one, c)

      le : at < n
      le = first_below terms rows n q low fit bases at (step ∷ [])
          (record { steps_exist = omega arith; steps_fit = (h, tt) })

      near : d at ≤ n
      near = near_walk first steps move.follows move.near at step on

      raised : ℕ → ℕ
      raised = changed at (l at + 1) l

      up : (e : ℕ) → l e ≤ raised e
      up = each_changed (λ e v. l e ≤ v) at (l at + 1) l (omega arith) (λ e ne. omega arith)

      small : l at + 1 ≤ n * length terms
      small =
          let b = code_below n (length terms) step.to step.term
          (step_below terms rows n q low fit bases at step h) c.in_range in
          omega (arith, b, code)

      step_is : (r s : Step) → s.to ≡ r.to → s.term ≡ r.term → r ≡ s
      step_is r s e f = sym (ap (λ z. record { to = z; term = s.term }) e
          ∙ ap (λ z. record { to = r.to; term = z }) f)

      -- any other step that lowers d has a greater code
      later : (step' : Step) → IsStep terms q after at step' → d at ≡ d step'.to + 1
          → l at + 1 ≤ step_code terms step'
      later step' h' falls' = more (cases_lt (l at) (step_code terms step')) where
        more : (l at < step_code terms step') ⊎ (step_code terms step' ≤ l at)
            → l at + 1 ≤ step_code terms step'
        more (inl k) = omega (arith, k)
        more (inr k) =
            let s = (step_after at step' h').1 falls' in
            let equal : step_code terms step ≡ step_code terms step' = omega (arith, k, s, code) in
            let (to, term) = code_same (length terms) step.to step.term step'.to step'.term
            c.in_range h'.2.in_range equal in
            absurd (full_gone at step on c full'
            (subst (λ z. IsStep terms q after at z) (step_is step' step to term) h'))

    -- the move makes z zero at an end of the walk, or it is so
    pub zero_or_raised : (rest_at terms after shift first ≡ pos 0)
        ⊎ ((rest_at terms after shift (last_of first steps) ≡ pos 0) ⊎ Raised)
    zero_or_raised = at move.full where
      at : (a ≡ neg_ℤ (rest_at terms rows shift first))
          ⊎ ((a ≡ rest_at terms rows shift (last_of first steps))
          ⊎ HasFull terms q rows first steps a)
          → (rest_at terms after shift first ≡ pos 0)
          ⊎ ((rest_at terms after shift (last_of first steps) ≡ pos 0) ⊎ Raised)
      at (inl is) = let r = at_first in inl (omega (arith, ints, r, is))
      at (inr (inl is)) = let r = at_last_place in inr (inl (omega (arith, ints, r, is)))
      at (inr (inr full)) =
          let (at, step, on, c, full', falls, code) = full_step first steps can move.follows full in
          inr (inr (raised_at at step on c full' code))

    -- so there are bounds of a greater potential
    pub bounds_rise : (l' : ℕ → ℕ) × AreLowerBounds terms n q after (IsOver terms after shift) d l'
        × (potential terms n shift rows d l < potential terms n shift after d l')
    unfolding potential
    bounds_rise = at zero_or_raised where
      Rises : (ℕ → ℕ) → Type 0
      Rises l' = sum_below n (λ e. zero_flag (rest_at terms rows shift e) + rank_of
          (n * length terms + 1) (d e) (l e)) < sum_below n
          (λ e. zero_flag (rest_at terms after shift e) + rank_of (n * length terms + 1) (d e)
          (l' e))

      rises_at : (l' : ℕ → ℕ) (e : ℕ) → ((e : ℕ) → l e ≤ l' e) → e < n
          → zero_flag (rest_at terms rows shift e) + l e < zero_flag
          (rest_at terms after shift e) + l' e → Rises l'
      rises_at l' e up le less =
          sum_below-lt n (λ e. zero_flag (rest_at terms rows shift e) + rank_of
          (n * length terms + 1) (d e) (l e))
          (λ e. zero_flag (rest_at terms after shift e) + rank_of (n * length terms + 1) (d e)
          (l' e)) e
          (λ e le. let f = flags e in let u = up e in omega (arith, f, u)) le (omega (arith, less))

      at : (rest_at terms after shift first ≡ pos 0)
          ⊎ ((rest_at terms after shift (last_of first steps) ≡ pos 0) ⊎ Raised)
          → (l' : ℕ → ℕ) × AreLowerBounds terms n q after (IsOver terms after shift) d l' × Rises l'
      at (inl is) =
          let b = move.along.shortest.below in
          let f = flag_rises (rest_at terms rows shift first) (rest_at terms after shift first)
          (λ z. omega (arith, ints, b, z)) is in
          (l, bounds_after, rises_at l first (λ e. omega arith) first_in (omega (arith, f)))
      at (inr (inl is)) =
          let b = move.along.shortest.shortest.arrives in
          let f = flag_rises (rest_at terms rows shift (last_of first steps))
          (rest_at terms after shift (last_of first steps)) (λ z. omega (arith, ints, b, z))
          is in (
            l,
            bounds_after,
            rises_at l (last_of first steps) (λ e. omega arith) last_in
                (omega (arith, f)),
          )
      at (inr (inr (e, on, le, l', bounds', up, less))) =
          (l', bounds', rises_at l' e up le (let f = flags e in omega (arith, f, less)))
