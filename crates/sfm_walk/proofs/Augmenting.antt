-- What the move along a walk of least steps by the greatest amount makes of the bases and of z.
use Rattle.std.proofs.Common.{◌≡◌, ◌≢◌, ◌⊎◌, ℕ, zero, suc, ◌+◌, ◌*◌, ◌^◌, ◌<◌, ◌≤◌, List, [], ◌∷◌, length, get_or, nat_eq, ℤ, pos, neg_ℤ, ◌+ℤ◌, ◌-ℤ◌, ◌≤ℤ◌, if◌then◌else◌, refl, sym, ap, ◌∙◌, arith}
use Rattle.std.specs.List.{All}
use Rattle.std.proofs.lemmas.Int.{ints}
use Rattle.std.proofs.lemmas.List.Elements.{All-get_or, All-from_get_or}
use Rattle.sfm_spec.specs.Terms.{exchanged}
use Rattle.sfm_spec.specs.Families.{Meaning, AreTerms, AreBases, rest_at, deficit}
use Rattle.sfm_spec.specs.Laws.{MoveLaws}
use Rattle.sfm_spec.specs.Labels.{HasFull}
use Rattle.sfm_spec.specs.Progress.{AreLowerBounds, IsProgress}
use Rattle.sfm_spec.specs.Walks.{term_at, base_at, AreSteps, IsOver, IsWalkMove, AllCanMove, MovesAlong, last_of}
use Rattle.sfm_spec.proofs.Walks.{terms-at}
use Rattle.sfm_spec.proofs.FewWalks.{bounds_after}
use Rattle.sfm_spec.proofs.Labels.{falls_all}
use Rattle.sfm_spec.proofs.LeastWalks.{MeetsWalk, few_steps, least_progress, meets_walk}
use Rattle.sfm_spec.proofs.Moves.{change_small, full_by_greatest, deficit_at_place}
use Rattle.sfm_spec.proofs.Gain.{move_laws, rest_moved}
use Rattle.sfm_spec.proofs.Sums.{length-exchanged}
use Rattle.sfm_law.specs.Rest.{IsRest}
use Rattle.sfm_exchange.specs.declared.path.Hop.{Hop}
use Rattle.sfm_exchange.specs.Hops.{AreNamed, AreInOrder, IsMovable, Moves, hop_at, steps_of}
use Rattle.sfm_walk.specs.Run.{IsGreatest, IsLeastWalk}
use Rattle.sfm_walk.specs.Spread.{AreSpread, IsUpTo}
use Rattle.sfm_exchange.specs.Signs.{AreMoved}
use Rattle.sfm_walk.proofs.Advancing.{ends_apart, exchanged-each}
use Rattle.sfm_exchange.proofs.Signing.{moved_ends}

module _ (terms : List Meaning) (n : ℕ) (q : ℤ) (rows : List (List ℤ))
    (fit : AreTerms n terms) where
  -- an amount that each can move
  all_can : (a : ℤ) (from : ℕ) (hops : List Hop) → AreNamed terms from hops
      → ((k : ℕ) → k < length hops → IsMovable terms q rows (hop_at hops k))
      → ((k : ℕ) → k < length hops → Moves terms q rows (hop_at hops k) a)
      → AllCanMove terms q rows from (steps_of hops) a
  all_can a from [] h movable moves = tt
  all_can a from (x ∷ hops) h movable moves =
      let is = h.0 in
      let m = movable 0 (omega arith) in (
        record {
          in_range = is.term_in;
          u = x.u;
          v = x.v;
          u_in = is.u_in;
          v_in = is.v_in;
          begins = is.begins;
          ends = is.ends;
          apart = m.apart;
          base = moves 0 (omega arith);
        },
        all_can a x.to hops h.1 (λ k l. movable (suc k) (omega arith))
            (λ k l. moves (suc k) (omega arith)),
      )

  -- what each can move, told by its places
  each_moves : (a : ℤ) (from : ℕ) (hops : List Hop) → AreNamed terms from hops
      → AllCanMove terms q rows from (steps_of hops) a → (k : ℕ) → k < length hops
      → Moves terms q rows (hop_at hops k) a
  each_moves a from [] h can k l = absurd (omega arith)
  each_moves a from (x ∷ hops) h can zero l =
      let is = h.0 in
      let c = can.0 in
      let distinct = (terms-at n terms x.term fit is.term_in).placed.distinct in
      let eu : c.u ≡ x.u = distinct c.u x.u c.u_in is.u_in (c.begins ∙ sym is.begins) in
      let ev : c.v ≡ x.v = distinct c.v x.v c.v_in is.v_in (c.ends ∙ sym is.ends) in
      rw (eu, ev) at c.base
  each_moves a from (x ∷ hops) h can (suc k) l = each_moves a x.to hops h.1 can.1 k (omega arith)

-- a walk of least steps, and an amount that its steps and its ends allow
module _ {terms : List Meaning} {n : ℕ} {q : ℤ} {shift : List ℤ} {rows : List (List ℤ)} {z : List ℤ}
    {d : ℕ → ℕ} {first : ℕ} {hops : List Hop} (w : IsLeastWalk terms n q shift rows z d first hops)
    (zn : length z ≡ n) (rest : IsRest terms shift rows z) where
  abbrev last : ℕ
  last = last_of first (steps_of hops)

  pub first_at : first < length z
  first_at = rw zn w.first_in

  pub last_at : last_of first (steps_of hops) < length z
  last_at = rw zn w.course.last_in

  pub apart : first ≢ last_of first (steps_of hops)
  apart = ends_apart z first last last refl w.course.under w.course.over

  -- the amount is not above what the deficit leaves
  pub amount_small : (a : ℤ) → a ≤ℤ neg_ℤ (get_or z first (pos 0))
      → neg_ℤ (pos (5 * 10 ^ 29)) ≤ℤ deficit n (rest_at terms rows shift) → a ≤ℤ pos (5 * 10 ^ 29)
  amount_small a under gap =
      let deep = deficit_at_place n (rest_at terms rows shift) first w.first_in in
      let r = rest.exact first first_at in
      omega (arith, ints, deep, r, under, gap)

  module _ (low : pos 0 ≤ℤ q) (fit : AreTerms n terms) (bases : AreBases q terms rows) (a : ℤ)
      (most : IsGreatest terms q rows z first hops a) where
    one : pos 1 ≤ℤ a
    one = most.some

    can : AllCanMove terms q rows first (steps_of hops) a
    can = all_can terms n q rows fit a first hops w.named w.movable most.moves

    by_first : a ≤ℤ neg_ℤ (rest_at terms rows shift first)
    by_first = rw (← rest.exact first first_at) most.under

    by_last : a ≤ℤ rest_at terms rows shift last
    by_last = rw (← rest.exact last last_at) most.over

    laws : MoveLaws terms n q shift rows first (steps_of hops) a
    laws = move_laws terms rows n q shift low fit bases first (steps_of hops) a w.shortest one can
        by_first by_last

    pub in_order : AreInOrder terms q rows first (steps_of hops) a
    in_order = laws.in_order

    abbrev along : (after : List (List ℤ)) → IsWalkMove terms rows first (steps_of hops) a after
        → MovesAlong terms q shift rows after
    along after moved = record {
      first = first;
      steps = steps_of hops;
      a = a;
      shortest = w.shortest;
      some = one;
      by_steps = can;
      by_first = by_first;
      by_last = by_last;
      moved = moved;
    }

    -- no greater amount is allowed by an end or by a step
    full : (a ≡ neg_ℤ (rest_at terms rows shift first))
        ⊎ ((a ≡ rest_at terms rows shift last) ⊎ HasFull terms q rows first (steps_of hops) a)
    full = full_by_greatest terms rows n q low fit bases a one shift first (steps_of hops) can
        by_first by_last
        (λ b can' under' over'. most.greatest b (rw (rest.exact first first_at) under')
        (rw (rest.exact last last_at) over')
        (each_moves terms n q rows fit b first hops w.named can'))

    -- so it is progress
    pub progress : (after : List (List ℤ)) → IsWalkMove terms rows first (steps_of hops) a after
        → IsProgress terms n q shift rows after
    progress after moved = least_progress terms rows n q shift low fit bases d w.course.ends
        w.course.no_faster after (along after moved) w.course.least full

    -- and the distances stay lower bounds
    module _ (bounded : (e : ℕ) → d e ≤ n + 1) (after : List (List ℤ))
        (moved : IsWalkMove terms rows first (steps_of hops) a after) where
      fits : AreSteps terms q rows first (steps_of hops)
      fits = w.shortest.shortest.walk.steps_fit

      near : d first ≤ n
      near =
          let f = falls_all d first (steps_of hops) w.course.falls in
          let z = w.course.ends last w.course.last_in
          (rw (rest.exact last last_at) at w.course.over) in
          let k = few_steps terms rows n q low fit bases d first (steps_of hops) w.first_in fits
          w.course.falls z in
          omega (arith, f, z, k)

      bounds : AreLowerBounds terms n q rows (IsOver terms rows shift) d (λ e. 0)
      bounds = record {
        lasts = w.course.ends;
        falls = w.course.no_faster;
        least = λ from step h f. omega arith;
        bounded = λ e le. bounded e;
        codes = λ e le. omega arith;
        far = λ e le is. refl;
      }

      pub meets : MeetsWalk terms rows n q low fit bases (IsOver terms rows shift) d (λ e. 0) first
          (steps_of hops)
      meets = meets_walk terms rows n q low fit bases (IsOver terms rows shift) d (λ e. 0) bounds
          first (steps_of hops) near fits w.course.least

      pub bounds_still : AreLowerBounds terms n q after (IsOver terms after shift) d meets.l'
      bounds_still = bounds_after terms rows n q shift low fit bases d meets.l' after
          (record {
            bounds = meets.bounds;
            along = along after moved;
            follows = meets.follows;
            near = near;
            full = full;
          })

    -- z after the move
    pub rest_after : (after : List (List ℤ)) → IsWalkMove terms rows first (steps_of hops) a after
        → IsRest terms shift after (exchanged z first (last_of first (steps_of hops)) a)
    rest_after after moved = record {
      places = length-exchanged z first last a ∙ rest.places;
      exact = λ e l.
          let l' : e < length z = rw length-exchanged at l in
          let m = rest_moved terms rows n q low fit bases first (steps_of hops) a one can shift
          after moved e in
          let r = rest.exact e l' in
          let k = exchanged-each z first last a first_at last_at apart e in
          k ∙ (ap (λ y. y +ℤ ((if nat_eq first e then a else pos 0)
          -ℤ (if nat_eq last e then a else pos 0))) r ∙ sym m);
    }

    -- only the ends have changed, and no sign has turned
    pub ends_moved : AreMoved z (exchanged z first (last_of first (steps_of hops)) a) first
        (last_of first (steps_of hops))
    ends_moved = moved_ends z first last a first_at last_at apart w.course.under w.course.over
        most.under most.over

    -- no entry has changed by more than the deficit has risen
    pub spread : (after : List (List ℤ)) → IsWalkMove terms rows first (steps_of hops) a after
        → AreSpread terms n shift rows after
    spread after moved b small =
        let gain = laws.gains after moved in
        All-from_get_or
        (λ x. All (IsUpTo
        (b +ℤ (deficit n (rest_at terms after shift) -ℤ deficit n (rest_at terms rows shift))))
        x) after [] (λ i li.
        All-from_get_or
        (IsUpTo (b +ℤ (deficit n (rest_at terms after shift) -ℤ deficit n
        (rest_at terms rows shift)))) (base_at after i) (pos 0) (λ j lj.
        let li' : i < length rows = rw moved.same_count at li in
        let lj' : j < length (base_at rows i) = rw (moved.same_lengths i) at lj in
        let c = moved.changed i j lj' in
        let s = change_small d first (steps_of hops) i (get_or (term_at terms i).places j 0) a
        (omega (arith, ints, one)) w.course.falls in
        let o : IsUpTo b (get_or (base_at rows i) j (pos 0)) = All-get_or (IsUpTo b)
        (base_at rows i) j (pos 0) lj'
        (All-get_or (λ x. All (IsUpTo b) x) rows i [] li' small) in
        record {
          low = omega (arith, ints, c, s, o.low, gain);
          high = omega (arith, ints, c, s, o.high, gain);
        }))
