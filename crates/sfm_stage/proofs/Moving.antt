-- The walk of a stage, as it is seen and as it is moved along: what is told by levels and rows
-- makes it one that serves, and what is kept is brought up with the bases.
use Rattle.std.proofs.Common.{◌≡◌, ◌≢◌, ◌⊎◌, ⊎_elim, inl, inr, ℕ, suc, ◌+◌, ◌-◌, ◌^◌, ◌<◌, ◌≤◌, List, [], ◌∷◌, length, get_or, nat_eq, ℤ, pos, neg_ℤ, ◌+ℤ◌, ◌-ℤ◌, ◌≤ℤ◌, ◌<ℤ◌, if◌then◌else◌, set, sym, ap, subst, ◌∙◌, arith, get_or-set_same, get_or-set_other, length-set}
use Rattle.std.proofs.lemmas.Bool.{cases_eq, cases_lt, ne_eqb}
use Rattle.std.proofs.lemmas.Int.{ints}
use Rattle.sfm_spec.specs.Terms.{exchanged}
use Rattle.sfm_spec.specs.Families.{Meaning, AreTerms, AreBases, rest_at}
use Rattle.sfm_spec.specs.Walks.{Step, IsStep, IsWalkMove, AllCanMove, last_of}
use Rattle.sfm_spec.proofs.Gain.{move_laws, rest_moved}
use Rattle.sfm_spec.proofs.MoveOrder.{exchanged-other}
use Rattle.sfm_spec.proofs.Sums.{length-exchanged}
use Rattle.sfm_spec.proofs.Walks.{first_below}
use Rattle.sfm_law.specs.Rest.{IsRest}
use Rattle.sfm_reach.specs.declared.bits.Bits.{Bits}
use Rattle.sfm_reach.specs.Unions.{HaveLinks}
use Rattle.sfm_exchange.specs.declared.path.Hop.{Hop}
use Rattle.sfm_exchange.specs.Hops.{AreInOrder, AreNamed, IsMovable, Moves, hop_at, steps_of}
use Rattle.sfm_exchange.specs.Levels.{depth_of}
use Rattle.sfm_exchange.specs.Signs.{AreMoved, AreSigns}
use Rattle.sfm_exchange.proofs.Following.{depth_bound, depth_has, depth_le, length-steps_of}
use Rattle.sfm_exchange.proofs.Signing.{moved_ends}
use Rattle.sfm_exchange.proofs.Telling.{hops_named}
use Rattle.sfm_walk.proofs.Advancing.{exchanged-each, movable_steps}
use Rattle.sfm_stage.specs.declared.kept.Kept.{Kept}
use Rattle.sfm_stage.specs.Courses.{IsCourse, IsSeen}
use Rattle.sfm_stage.specs.Kept.{IsKept, IsLow}
use Rattle.sfm_stage.specs.Served.{AreOrdered, IsServing}
use Rattle.sfm_stage.proofs.Serving.{IsStageWalk, over_low, serving_one, shortest_low}

-- a walk that is seen, each step of which is a true one
module _ {terms : List Meaning} {low high : List ℤ} {rows : List (List ℤ)} {kept : Kept}
    (k : IsKept terms low high rows kept) (fit : AreTerms (length low) terms)
    (bases : AreBases (pos 1) terms rows) {unions : List Bits}
    (links : HaveLinks terms (length low) (pos 1) rows unions)
    {tables : List (List Bits)} (seen : IsSeen terms tables (length low) unions kept) where
  abbrev levels : List Bits
  levels = kept.levels.items

  abbrev end : ℕ
  end = last_of kept.path.first (steps_of kept.path.hops.items)

  -- no step lowers the depth by more than one
  depth_falls : (from : ℕ) (step : Step) → IsStep terms (pos 1) rows from step
      → depth_of levels from ≤ depth_of levels step.to + 1
  depth_falls from step h = ⊎_elim
      (λ l.
      let has = depth_has levels step.to (omega (arith, l)) in
      let lf : from < length low = first_below terms rows (length low) (pos 1) (omega (arith, ints))
      fit bases from (step ∷ []) (record { steps_exist = omega arith; steps_fit = (h, tt) }) in
      let bit = links from step.to lf (step.term, h) in
      let (j, lj, at) = seen.first.levelled.closed (depth_of levels step.to) from l lf
      (step.to, bit, has) in
      let d = depth_le levels j from (omega (arith, lj, l)) at in
      omega (arith, d, lj))
      (λ deep. let b = depth_bound levels from in omega (arith, b, deep))
      (cases_lt (depth_of levels step.to + 1) (length levels))

  -- it is 0 at each place above the lower shift
  depth_over : (e : ℕ) → e < length low → pos 0 <ℤ rest_at terms rows low e → depth_of levels e ≡ 0
  depth_over e le over = ⊎_elim
      (λ is.
      let over' : pos 0 <ℤ get_or kept.low.items e (pos 0) = rw is over in
      let d = depth_le levels 0 e seen.first.levelled.some
      ((seen.first.levelled.over e).1 (le, over')) in
      omega (arith, d))
      (λ z. let none = z.1 in absurd (omega (arith, ints, over, none)))
      (k.lower.told e (rw k.lower.places le))

  some_aims : 0 < length kept.aims.items
  some_aims = let c = seen.aims.count in let f = seen.first.further in omega (arith, c, f)

  pub seen_course : ((j : ℕ) → j < length kept.path.hops.items
      → IsMovable terms (pos 1) rows (hop_at kept.path.hops.items j)) → IsCourse terms low rows kept
  seen_course movable = record {
    d = depth_of levels;
    some = seen.led.some;
    named = hops_named terms tables kept.path.first kept.path.hops.items seen.led.told;
    movable = movable;
    falls = seen.led.falls;
    no_faster = depth_falls;
    ends = depth_over;
    first_in =
        let f = seen.first.further in
        let top : length levels - 1 + 1 ≡ length levels = omega (arith, f) in
        seen.first.levelled.below (length levels - 1) kept.path.first (omega (arith, f))
        (seen.first.last (length levels - 1) top);
    last_in = seen.first.levelled.below 0 end seen.first.levelled.some
        (seen.aims.within 0 end some_aims seen.led.ends);
    under = seen.first.under;
    over = ((k.above.above end).0 (seen.aims.reached end some_aims seen.led.ends)).1;
  }

-- an amount that each step can move
all_can : (terms : List Meaning) (rows : List (List ℤ)) (a : ℤ) (from : ℕ) (hops : List Hop)
    → AreNamed terms from hops → ((k : ℕ) → k < length hops
    → IsMovable terms (pos 1) rows (hop_at hops k))
    → ((k : ℕ) → k < length hops → Moves terms (pos 1) rows (hop_at hops k) a)
    → AllCanMove terms (pos 1) rows from (steps_of hops) a
all_can terms rows a from [] h movable moves = tt
all_can terms rows a from (x ∷ hops) h movable moves =
    let is = h.0 in
    let m = movable 0 (omega arith) in (
      record {
        in_range = is.term_in;
        u = x.u;
        v = x.v;
        u_in = is.u_in;
        v_in = is.v_in;
        begins = is.begins;
        ends = is.ends;
        apart = m.apart;
        base = moves 0 (omega arith);
      },
      all_can terms rows a x.to hops h.1 (λ k l. movable (suc k) (omega arith))
          (λ k l. moves (suc k) (omega arith)),
    )

module _ {terms : List Meaning} {low high : List ℤ} {rows : List (List ℤ)} {kept : Kept}
    (k : IsKept terms low high rows kept) (c : IsCourse terms low rows kept)
    (order : AreOrdered low high) where
  abbrev first : ℕ
  first = kept.path.first

  abbrev steps : List Step
  steps = steps_of kept.path.hops.items

  abbrev last : ℕ
  last = last_of kept.path.first (steps_of kept.path.hops.items)

  low_in : (e : ℕ) → e < length low → e < length kept.low.items
  low_in e l = rw k.lower.places l

  high_in : (e : ℕ) → e < length low → e < length kept.high.items
  high_in e l = rw (k.higher.places, order.places) l

  -- at its ends nothing is left out
  first_low : get_or kept.low.items kept.path.first (pos 0) ≡ rest_at terms rows low kept.path.first
  first_low = ⊎_elim (λ is. is) (λ z.
      let u = c.under in let n = z.0 in absurd (omega (arith, ints, u, n)))
      (k.lower.told first (low_in first c.first_in))

  first_high : get_or kept.high.items kept.path.first (pos 0) ≡ rest_at terms rows high
      kept.path.first
  first_high = k.higher.exact first (high_in first c.first_in)

  last_high : get_or kept.high.items last (pos 0) ≡ rest_at terms rows high last
  last_high = k.higher.exact last (high_in last c.last_in)

  last_over : pos 0 <ℤ rest_at terms rows low last
  last_over = let o = order.order last
      c.last_in in let h = last_high in let v = c.over in omega (arith, ints, o, h, v)

  last_low : get_or kept.low.items last (pos 0) ≡ rest_at terms rows low last
  last_low = ⊎_elim (λ is. is) (λ z.
      let o = last_over in let n = z.1 in absurd (omega (arith, ints, o, n)))
      (k.lower.told last (low_in last c.last_in))

  low_over : pos 0 <ℤ get_or kept.low.items last (pos 0)
  low_over = rw last_low last_over

  pub ends_apart : kept.path.first ≢ last_of kept.path.first (steps_of kept.path.hops.items)
  ends_apart same =
      let o : pos 0 <ℤ get_or kept.low.items first
      (pos 0) = subst (λ e. pos 0 <ℤ get_or kept.low.items e (pos 0)) (sym same) low_over in
      let u = c.under in
      omega (arith, ints, u, o)

  module _ (a : ℤ) (some : pos 1 ≤ℤ a)
      (by_first : a ≤ℤ neg_ℤ (get_or kept.low.items kept.path.first (pos 0)))
      (by_last : a ≤ℤ get_or kept.high.items
      (last_of kept.path.first (steps_of kept.path.hops.items)) (pos 0)) where
    pub low_last : a ≤ℤ get_or kept.low.items
        (last_of kept.path.first (steps_of kept.path.hops.items)) (pos 0)
    low_last = let o = order.order last
        c.last_in in let h = last_high in let l = last_low in omega (arith, ints, o, h, l, by_last)

    pub high_first : a ≤ℤ neg_ℤ (get_or kept.high.items kept.path.first (pos 0))
    high_first = let o = order.order first
        c.first_in in let h = first_high in let l = first_low in omega (
          arith,
          ints,
          o,
          h,
          l,
          by_first,
        )

    module _ (fit : AreTerms (length low) terms) (bases : AreBases (pos 1) terms rows)
        (moves : (j : ℕ) → j < length kept.path.hops.items
        → Moves terms (pos 1) rows (hop_at kept.path.hops.items j) a) where
      can : AllCanMove terms (pos 1) rows kept.path.first (steps_of kept.path.hops.items) a
      can = all_can terms rows a first kept.path.hops.items c.named c.movable moves

      stage_walk : IsStageWalk terms low high rows c.d kept.path.first
          (steps_of kept.path.hops.items) a
      stage_walk = record {
        first_in = c.first_in;
        last_in = c.last_in;
        walk = record {
          steps_exist = let s = c.some in omega (
            arith,
            s,
            length-steps_of kept.path.hops.items,
          );
          steps_fit = movable_steps terms (pos 1) rows first kept.path.hops.items c.named
              c.movable;
        };
        falls = c.falls;
        no_faster = c.no_faster;
        ends = c.ends;
        some = some;
        can = can;
        by_first = let f = first_low in omega (arith, ints, f, by_first);
        by_last = let h = last_high in omega (arith, ints, h, by_last);
      }

      pub stage_order : AreInOrder terms (pos 1) rows kept.path.first
          (steps_of kept.path.hops.items) a
      stage_order = (move_laws terms rows (length low) (pos 1) low (omega (arith, ints)) fit bases
          first steps a (shortest_low stage_walk fit bases order) some can stage_walk.by_first
          (over_low stage_walk fit bases order)).in_order

      module _ (after : List (List ℤ))
          (moved : IsWalkMove terms rows kept.path.first (steps_of kept.path.hops.items) a
          after) where
        pub stage_serves : a ≤ℤ pos (10 ^ 20) → IsServing terms low high 1 rows after
        stage_serves most = serving_one stage_walk fit bases most after moved

        rest_then : (shift : List ℤ) (e : ℕ)
            → rest_at terms after shift
            e ≡ (rest_at terms rows shift
            e +ℤ ((if nat_eq first e then a else pos 0) -ℤ (if nat_eq last e then a else pos 0)))
        rest_then shift e = rest_moved terms rows (length low) (pos 1) (omega (arith, ints)) fit
            bases first steps a some can shift after moved e

        low_then : IsLow terms low after (exchanged kept.low.items first last a)
        low_then = record {
          places = length-exchanged kept.low.items first last a ∙ k.lower.places;
          told = λ e l. ⊎_elim
              (λ is. inl (exchanged-each kept.low.items first last a (low_in first c.first_in)
              (low_in last c.last_in) ends_apart e
              ∙ (ap (λ y. y +ℤ ((if nat_eq first e then a else pos 0)
              -ℤ (if nat_eq last e then a else pos 0))) is ∙ sym (rest_then low e))))
              (λ z. inr (none_then e z.0 z.1))
              (k.lower.told e (rw length-exchanged at l));
        } where
          none_then : (e : ℕ) → get_or kept.low.items e (pos 0) ≡ pos 0
              → rest_at terms rows low e ≤ℤ pos 0
              → (get_or (exchanged kept.low.items first last a) e (pos 0) ≡ pos 0)
              × (rest_at terms after low e ≤ℤ pos 0)
          none_then e zero' le =
              let nf : e ≢ first = λ s. let u = c.under in let z : get_or kept.low.items first
              (pos 0) ≡ pos 0 = subst (λ i. get_or kept.low.items i (pos 0) ≡ pos 0) s
              zero' in omega (arith, ints, u, z) in
              let nl : e ≢ last = λ s. let o = low_over in let z : get_or kept.low.items last
              (pos 0) ≡ pos 0 = subst (λ i. get_or kept.low.items i (pos 0) ≡ pos 0) s
              zero' in omega (arith, ints, o, z) in
              let r = rw (ne_eqb first e (λ s. nf (sym s)), ne_eqb last e (λ s. nl (sym s))) at
              (rest_then low e) in (
                exchanged-other kept.low.items first last e a nf nl ∙ zero',
                omega (arith, ints, r, le),
              )

        high_then : IsRest terms high after (exchanged kept.high.items first last a)
        high_then = record {
          places = length-exchanged kept.high.items first last a ∙ k.higher.places;
          exact = λ e l.
              exchanged-each kept.high.items first last a (high_in first c.first_in)
              (high_in last c.last_in) ends_apart e
              ∙ (ap (λ y. y +ℤ ((if nat_eq first e then a else pos 0)
              -ℤ (if nat_eq last e then a else pos 0)))
              (k.higher.exact e (rw length-exchanged at l)) ∙ sym (rest_then high e));
        }

        -- what is kept after the move
        pub kept_then : (kept' : Kept) → kept'.low.items ≡ exchanged kept.low.items kept.path.first
            (last_of kept.path.first (steps_of kept.path.hops.items)) a
            → kept'.high.items ≡ exchanged kept.high.items kept.path.first
            (last_of kept.path.first (steps_of kept.path.hops.items)) a
            → (AreMoved kept.low.items kept'.low.items kept.path.first
            (last_of kept.path.first (steps_of kept.path.hops.items))
            → AreSigns kept.low.items kept.below → AreSigns kept'.low.items kept'.below)
            → (AreMoved kept.high.items kept'.high.items kept.path.first
            (last_of kept.path.first (steps_of kept.path.hops.items))
            → AreSigns kept.high.items kept.above → AreSigns kept'.high.items kept'.above)
            → IsKept terms low high after kept'
        kept_then kept' low_is high_is below above = record {
          lower = rw low_is low_then;
          higher = rw high_is high_then;
          below = below
              (rw low_is (moved_ends kept.low.items first last a (low_in first c.first_in)
              (low_in last c.last_in) ends_apart c.under low_over by_first low_last)) k.below;
          above = above
              (rw high_is (moved_ends kept.high.items first last a (high_in first c.first_in)
              (high_in last c.last_in) ends_apart
              (let h = high_first in omega (arith, ints, h, some)) c.over high_first by_last))
              k.above;
        }

-- what is kept where from a place no walk is to begin any more
pub kept_shut : {terms : List Meaning} {low high : List ℤ} {rows : List (List ℤ)}
    (kept kept' : Kept) (first : ℕ) → IsKept terms low high rows kept
    → first < length kept.low.items → get_or kept.low.items first (pos 0) <ℤ pos 0
    → kept'.low.items ≡ set kept.low.items first (pos 0) → AreSigns kept'.low.items kept'.below
    → kept'.high.items ≡ kept.high.items → kept'.above ≡ kept.above
    → IsKept terms low high rows kept'
kept_shut {terms} {low} {high} {rows} kept kept' first k lf under low_is signs high_is above_is =
    record {
      lower = rw low_is (record {
        places = length-set kept.low.items first (pos 0) ∙ k.lower.places;
        told = λ e l. ⊎_elim
            (λ same. inr (
              rw same (get_or-set_same kept.low.items first (pos 0) (pos 0) lf),
              rw same below_too,
            ))
            (λ ne. subst (λ y. (y ≡ rest_at terms rows low e)
            ⊎ ((y ≡ pos 0) × (rest_at terms rows low e ≤ℤ pos 0)))
            (sym (get_or-set_other kept.low.items first e (pos 0) (pos 0) ne))
            (k.lower.told e (rw length-set at l)))
            (cases_eq e first);
      });
      higher = rw high_is k.higher;
      below = signs;
      above = rw (high_is, above_is) k.above;
    } where
      below_too : rest_at terms rows low first ≤ℤ pos 0
      below_too = ⊎_elim (λ is. omega (arith, ints, is, under)) (λ z. z.1) (k.lower.told first lf)
