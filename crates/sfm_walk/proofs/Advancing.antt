-- One walk: that it is a shortest joining one, and what moving along it makes of the bases and of
-- z.
use Rattle.std.proofs.Common.{◌≡◌, ◌≢◌, ◌⊎◌, ⊎_elim, ℕ, suc, ◌+◌, ◌*◌, ◌^◌, ◌<◌, ◌≤◌, List, [], ◌∷◌, length, get_or, nat_eq, ℤ, pos, ◌+ℤ◌, ◌-ℤ◌, ◌≤ℤ◌, ◌<ℤ◌, if◌then◌else◌, subst, sym, ◌∙◌, arith, inl, inr}
use Rattle.std.specs.List.{All}
use Rattle.std.proofs.lemmas.Bool.{cases_eq, cases_lt, eq-eqb, ne_eqb}
use Rattle.std.proofs.lemmas.Int.{ints}
use Rattle.std.proofs.lemmas.List.Elements.{All-get_or, All-from_get_or}
use Rattle.sfm_spec.specs.Terms.{exchanged, times}
use Rattle.sfm_spec.specs.Bounds.{IsAtMost, IsEntry}
use Rattle.sfm_spec.specs.Families.{Meaning, AreTerms, AreBases, rest_at}
use Rattle.sfm_spec.specs.Labels.{FallsAlong}
use Rattle.sfm_spec.specs.Walks.{Step, base_at, term_at, IsStep, AreSteps, IsWalk, last_of}
use Rattle.sfm_spec.proofs.Walks.{first_below, step_below}
use Rattle.sfm_spec.proofs.Labels.{falls_all, falls_within}
use Rattle.sfm_spec.proofs.MoveOrder.{exchanged-first, exchanged-second, exchanged-other}
use Rattle.sfm_reach.specs.declared.bits.Bits.{Bits}
use Rattle.sfm_exchange.specs.declared.path.Hop.{Hop}
use Rattle.sfm_exchange.specs.Bits.{bit_in, set_at}
use Rattle.sfm_law.specs.Rest.{IsRest}
use Rattle.sfm_exchange.specs.Claimed.{IsClaim}
use Rattle.sfm_exchange.specs.Reach.{table_at}
use Rattle.sfm_exchange.specs.Unions.{HaveLinks}
use Rattle.sfm_exchange.specs.Levels.{depth_of, IsFirst}
use Rattle.sfm_exchange.specs.Hops.{AreHops, AreLeast, AreNamed, IsMovable, hop_at, steps_of}
use Rattle.sfm_walk.specs.Run.{IsLeastWalk, IsSoughtWalk}
use Rattle.sfm_exchange.proofs.Telling.{hops_least, hops_named}
use Rattle.sfm_exchange.proofs.Following.{length-steps_of, depth_has, depth_le, depth_bound}

module _ (terms : List Meaning) (rows : List (List ℤ)) (n : ℕ) (q : ℤ) (shift z : List ℤ)
    (low : pos 0 ≤ℤ q) (fit : AreTerms n terms) (bases : AreBases q terms rows) (zn : length z ≡ n)
    (rest : IsRest terms shift rows z) (unions : List Bits)
    (links : HaveLinks terms n q rows unions)
    (levels : List Bits) (first : ℕ) (begin : IsFirst n unions z levels first) where
  -- no step lowers the depth by more than one
  pub depth_falls : (from : ℕ) (step : Step) → IsStep terms q rows from step
      → depth_of levels from ≤ depth_of levels step.to + 1
  depth_falls from step h = ⊎_elim
      (λ l.
      let has = depth_has levels step.to (omega (arith, l)) in
      let lf : from < n = first_below terms rows n q low fit bases from (step ∷ [])
      (record { steps_exist = omega arith; steps_fit = (h, tt) }) in
      let bit = links from step.to lf (step.term, h) in
      let (j, lj, at) = begin.levelled.closed (depth_of levels step.to) from l lf
      (step.to, bit, has) in
      let d = depth_le levels j from (omega (arith, lj, l)) at in
      omega (arith, d, lj))
      (λ deep. let b = depth_bound levels from in omega (arith, b, deep))
      (cases_lt (depth_of levels step.to + 1) (length levels))

  pub over_depth : (e : ℕ) → e < n → pos 0 <ℤ rest_at terms rows shift e → depth_of levels e ≡ 0
  over_depth e le over =
      let r = rest.exact e (rw zn le) in
      let over' : pos 0 <ℤ get_or z e (pos 0) = rw r over in
      let d = depth_le levels 0 e begin.levelled.some ((begin.levelled.over e).1 (le, over')) in
      omega (arith, d)

  -- the walk of least steps that the levels and the rows tell
  pub sought_walk : (tables : List (List Bits))
      → ((i : ℕ) → i < length terms → (u : ℕ) → u < length (term_at terms i).places
      → IsClaim (term_at terms i).places (times q (term_at terms i).value) (base_at rows i) u
      (set_at (table_at tables i) u)) → (hops : List Hop) → 0 < length hops
      → AreHops terms tables first hops → FallsAlong (depth_of levels) first (steps_of hops)
      → AreLeast terms tables (depth_of levels) first hops
      → bit_in (set_at levels 0) (last_of first (steps_of hops)) ≡ 1
      → IsSoughtWalk terms n q shift rows tables z (depth_of levels) first hops
  sought_walk tables claims hops some told falls least arrives = record {
    course = record {
      some = some;
      last_in = last.0;
      under = begin.under;
      over = last.1;
      falls = falls;
      least = hops_least terms rows n q fit tables claims (depth_of levels) first hops falls least;
      no_faster = depth_falls;
      ends = over_depth;
    };
    told = told;
  } where
    last : (last_of first (steps_of hops) < n)
        × (pos 0 <ℤ get_or z (last_of first (steps_of hops)) (pos 0))
    last = (begin.levelled.over (last_of first (steps_of hops))).0 arrives

-- steps that can move something are steps
pub movable_steps : (terms : List Meaning) (q : ℤ) (rows : List (List ℤ)) (from : ℕ)
    (hops : List Hop) → AreNamed terms from hops
    → ((k : ℕ) → k < length hops → IsMovable terms q rows (hop_at hops k))
    → AreSteps terms q rows from (steps_of hops)
movable_steps terms q rows from [] h movable = tt
movable_steps terms q rows from (x ∷ hops) h movable =
    let m = movable 0 (omega arith) in
    let (a, some, base) = m.room in (
      (
        a,
        some,
        record {
          in_range = m.term_in;
          u = x.u;
          v = x.v;
          u_in = m.u_in;
          v_in = m.v_in;
          begins = h.0.begins;
          ends = h.0.ends;
          apart = m.apart;
          base = base;
        },
      ),
      movable_steps terms q rows x.to hops h.1 (λ k l. movable (suc k) (omega arith)),
    )

-- where each step of the walk that is told is a true one, it is a shortest joining one
module _ (terms : List Meaning) (rows : List (List ℤ)) (n : ℕ) (q : ℤ) (shift z : List ℤ)
    (low : pos 0 ≤ℤ q) (fit : AreTerms n terms) (bases : AreBases q terms rows) (zn : length z ≡ n)
    (rest : IsRest terms shift rows z) (tables : List (List Bits))
    (d : ℕ → ℕ) (first : ℕ) (hops : List Hop)
    (w : IsSoughtWalk terms n q shift rows tables z d first hops) where
  pub least_walk : ((k : ℕ) → k < length hops → IsMovable terms q rows (hop_at hops k))
      → IsLeastWalk terms n q shift rows z d first hops
  least_walk movable = record {
    course = w.course;
    named = named;
    movable = movable;
    shortest = record {
      shortest = record {
        walk = walk;
        arrives = rw (← rest.exact (last_of first (steps_of hops)) (rw zn w.course.last_in))
            w.course.over;
        fewest = λ other walk' over.
            let mine = falls_all d first (steps_of hops) w.course.falls in
            let theirs = falls_within terms q rows d w.course.no_faster first other
            walk'.steps_fit in
            let zero' = w.course.ends (last_of first other)
            (ends_below first other first_in walk'.steps_fit) over in
            omega (arith, mine, theirs, zero');
      };
      below = rw (← rest.exact first (rw zn first_in)) w.course.under;
    };
    first_in = first_in;
  } where
    named : AreNamed terms first hops
    named = hops_named terms tables first hops w.told

    walk : IsWalk terms q rows first (steps_of hops)
    walk = record {
      steps_exist = omega (arith, w.course.some, length-steps_of hops);
      steps_fit = movable_steps terms q rows first hops named movable;
    }

    first_in : first < n
    first_in = first_below terms rows n q low fit bases first (steps_of hops) walk

    ends_below : (from : ℕ) (other : List Step) → from < n → AreSteps terms q rows from other
        → last_of from other < n
    ends_below from [] l h = l
    ends_below from (s ∷ ss) l h =
        ends_below s.to ss (step_below terms rows n q low fit bases from s h.0) h.1

-- an entry of z after the exchange of its ends
pub exchanged-each : (z : List ℤ) (first last : ℕ) (a : ℤ) → first < length z → last < length z
    → first ≢ last → (e : ℕ)
    → get_or (exchanged z first last a) e
    (pos 0) ≡ (get_or z e (pos 0)
    +ℤ ((if nat_eq first e then a else pos 0) -ℤ (if nat_eq last e then a else pos 0)))
exchanged-each z first last a lf ll apart e = at (cases_eq first e) (cases_eq last e) where
  at : (first ≡ e) ⊎ (first ≢ e) → (last ≡ e) ⊎ (last ≢ e)
      → get_or (exchanged z first last a) e
      (pos 0) ≡ (get_or z e (pos 0)
      +ℤ ((if nat_eq first e then a else pos 0) -ℤ (if nat_eq last e then a else pos 0)))
  at (inl f) (inl l) = absurd (apart (f ∙ sym l))
  at (inl f) (inr l) =
      let P : ℕ → Type 0 = λ k. get_or (exchanged z first last a) k
      (pos 0) ≡ (get_or z k (pos 0) +ℤ a) in
      let r' : P e = subst P f (exchanged-first z first last a lf apart) in
      rw (eq-eqb first e f, ne_eqb last e l) (omega (arith, ints, r'))
  at (inr f) (inl l) =
      let P : ℕ → Type 0 = λ k. get_or (exchanged z first last a) k
      (pos 0) ≡ (get_or z k (pos 0) -ℤ a) in
      let r' : P e = subst P l (exchanged-second z first last a ll) in
      rw (ne_eqb first e f, eq-eqb last e l) (omega (arith, ints, r'))
  at (inr f) (inr l) =
      let r = exchanged-other z first last e a (λ s. f (sym s)) (λ s. l (sym s)) in
      rw (ne_eqb first e f, ne_eqb last e l) (omega (arith, ints, r))

-- the ends of a walk are apart
pub ends_apart : (z : List ℤ) (first last shown : ℕ) → shown ≡ last
    → get_or z first (pos 0) <ℤ pos 0 → pos 0 <ℤ get_or z last (pos 0) → first ≢ shown
ends_apart z first last shown is under over same =
    let P : ℕ → Type 0 = λ k. pos 0 <ℤ get_or z k (pos 0) in
    let o : P first = subst P (sym (same ∙ is)) over in
    omega (arith, ints, o, under)

-- small entries, told otherwise
pub entries_small : (rows : List (List ℤ)) → All (λ x. All (IsAtMost (5 * 10 ^ 29)) x) rows
    → All (λ x. All IsEntry x) rows
entries_small rows h = All-from_get_or (λ x. All IsEntry x) rows []
    (λ i li. All-from_get_or IsEntry (base_at rows i) (pos 0) (λ j lj.
    let b : IsAtMost (5 * 10 ^ 29) (get_or (base_at rows i) j (pos 0)) = All-get_or
    (IsAtMost (5 * 10 ^ 29)) (base_at rows i) j (pos 0) lj
    (All-get_or (λ x. All (IsAtMost (5 * 10 ^ 29)) x) rows i [] li h) in
    record { low = omega (arith, ints, b.low); high = omega (arith, ints, b.high) }))
