use Rattle.std.proofs.Common.{◌≡◌, ◌≢◌, ◌<◌, ◌++◌, ℕ, List, [], ℤ, pos, length, get_or, set, take, drop, inr, refl, sym, ap, ◌∙◌, subst, arith, get_or-set_same, FitsSigned}
use Rattle.std.proofs.lemmas.Int.{ints, to_z-of_z}
use Rattle.std.proofs.lemmas.List.{length-set, take_at}
use Rattle.std.proofs.lemmas.List.Elements.{All-get_or}
use mir.Syntax.{w128}
use mir.Val.{of_z, to_z}
use Rattle.sfm_spec.specs.Bounds.{IsEntry}
use Rattle.sfm_spec.specs.Sets.{AreDistinct}
use Rattle.sfm_spec.specs.Families.{meanings}
use Rattle.sfm_spec.specs.Terms.{IsBase, times, exchanged}
use Rattle.sfm_spec.specs.Walks.{base_at}
use Rattle.sfm_spec.proofs.Sums.{length-exchanged}
use Rattle.sfm_law.specs.Based.{CanSwap, IsBased}
use Rattle.sfm_law.proofs.Rooms.{base_within_room}
use Rattle.sfm_reach.specs.Based.{IsPlacedBase}
use Rattle.sfm_reach.specs.Reach.{kept_fits}
use Rattle.sfm_exchange.specs.Claimed.{AreClaims}
use Rattle.sfm_exchange.specs.Sums.{AreSums}
use Rattle.sfm_reach.proofs.Basing.{based_after, size_low}
use Rattle.sfm_exchange.proofs.ClaimedGraphs.{base_count, based, claimed_after, claimed_shown, claims_at, counted, distinct_at, means, place_in, places_are, row_long, rows_after, rows_count, rows_shown, united_by}
use Rattle.sfm_exchange.specs.declared.path.Hop.{Hop}
use Rattle.sfm_exchange.proofs.Summing.{sums_exchanged, sums_small}
use Rattle.sfm_exchange.proofs.moving.exchange_at.Given as given
use Rattle.sfm_exchange.proofs.moving.exchange_at.Goals as goal
use Rattle.sfm_exchange.proofs.moving.exchange_at.Goals.{After-elements-places, After-row-x, After-row-x-2}

-- the row of the term is a base of it within the bounds
here : (g : given.Over) (c : After-row-x g)
    → let t = g.T.Term in IsPlacedBase t.places t.value_of t.size_of c.index-terms-i.result c.args.q
    (base_at c.args.graph.now.bases c.args.hop.term)
here g c =
    let t = g.T.Term in
    let m = g.met.T.Term in
    let r = c.requires in
    based r.graph c.args.hop.term r.inside c.index-terms-i.result c.index-terms-i.is
    (size_low t.places t.value_of t.size_of m.submodular m.bounded) r.can.small

-- also as the calls are given it
given_base : (g : given.Over) (c : After-row-x g)
    → let t = g.T.Term in IsBased t.places t.value_of t.size_of c.index-terms-i.result
    (to_z w128 (of_z w128 c.args.q)) c.row-x.result.now
given_base g c =
    let fq : FitsSigned w128 c.args.q = c.ranges.q in
    rw c.row-x.ensures (simp to_z-of_z (here g c).based)

-- and the exchange can be made there
can : (g : given.Over) (c : After-row-x g)
    → CanSwap (times (to_z w128 (of_z w128 c.args.q)) (g.T.Term.value_of c.index-terms-i.result))
    c.row-x.result.now c.args.hop.u c.args.hop.v (to_z w128 (of_z w128 c.args.a))
can g c =
    let r = c.requires in
    let fq : FitsSigned w128 c.args.q = c.ranges.q in
    let fa : FitsSigned w128 c.args.a = c.ranges.a in
    let swap = rw (means r.graph c.args.hop.term r.inside c.index-terms-i.result c.index-terms-i.is)
    at r.can.swap in
    rw c.row-x.ensures (simp to_z-of_z swap)

-- the bases after the exchange
moved : (g : given.Over) (c : After-row-x-2 g) → let bases = c.args.graph.now.bases in
    c.exchange.new.self ≡ set bases c.args.hop.term
    (exchanged (base_at bases c.args.hop.term) c.args.hop.u c.args.hop.v c.args.a)
moved g c =
    let fa : FitsSigned w128 c.args.a = c.ranges.a in
    simp to_z-of_z at c.exchange.ensures

-- what the row of the term has become
came : (g : given.Over) (c : After-row-x-2 g)
    → c.row-x-2.result.now ≡ exchanged (base_at c.args.graph.now.bases c.args.hop.term) c.args.hop.u
    c.args.hop.v c.args.a
came g c =
    let bases = c.args.graph.now.bases in
    let r = c.requires in
    c.row-x-2.ensures
    ∙ (ap (λ rows. get_or rows c.args.hop.term []) (moved g c)
    ∙ get_or-set_same bases c.args.hop.term
    (exchanged (base_at bases c.args.hop.term) c.args.hop.u c.args.hop.v c.args.a) []
    (rw (base_count r.graph) r.inside))

-- which is such a base too
still : (g : given.Over) (c : After-row-x-2 g)
    (b : let t = g.T.Term in IsPlacedBase t.places t.value_of t.size_of c.index-terms-i.result
    c.args.q (base_at c.args.graph.now.bases c.args.hop.term))
    → let t = g.T.Term in IsPlacedBase t.places t.value_of t.size_of c.index-terms-i.result c.args.q
    c.row-x-2.result.now
still g c b =
    let t = g.T.Term in
    let r = c.requires in
    let hop = c.args.hop in
    let f = times c.args.q (t.value_of c.index-terms-i.result) in
    let x = base_at c.args.graph.now.bases hop.term in
    let s : CanSwap f x hop.u hop.v
    c.args.a = rw (means r.graph hop.term r.inside c.index-terms-i.result c.index-terms-i.is) at
    r.can.swap in
    let base : IsBase f (exchanged x hop.u hop.v c.args.a) = base_within_room c.args.a b.based.base
    s.from s.onto s.apart s.low s.room in
    based_after t.places t.value_of t.size_of c.index-terms-i.result c.args.q x c.row-x-2.result.now
    hop.u hop.v c.args.a b (came g c) r.can.after (subst (IsBase f) (sym (came g c)) base)

-- with as many entries
long : (g : given.Over) (c : After-row-x-2 g)
    → length c.row-x-2.result.now ≡ length (base_at c.args.graph.now.bases c.args.hop.term)
long g c = ap length (came g c) ∙ length-exchanged (base_at c.args.graph.now.bases c.args.hop.term)
    c.args.hop.u c.args.hop.v c.args.a

-- the bases with that row
changed : (g : given.Over) (c : After-row-x-2 g)
    → c.exchange.new.self ≡ set c.args.graph.now.bases c.args.hop.term c.row-x-2.result.now
changed g c = moved g c ∙ ap (set c.args.graph.now.bases c.args.hop.term) (sym (came g c))

-- the exchange at the row of the term
module _ (g : given.Over) (c : After-elements-places g) where
  abbrev hop : Hop
  hop = c.args.hop

  abbrev x : List ℤ
  x = base_at c.args.graph.now.bases hop.term

  abbrev places : List ℕ
  places = c.elements-places.result.now

  swap : CanSwap (times c.args.q (g.T.Term.value_of c.index-terms-i.result)) x hop.u hop.v c.args.a
  swap = rw (means c.requires.graph hop.term c.requires.inside c.index-terms-i.result
      c.index-terms-i.is) at c.requires.can.swap

  entries : length x ≡ length places
  entries = row_long c.requires.graph hop.term c.requires.inside c.index-terms-i.result
      c.index-terms-i.is ∙ ap length (sym c.elements-places.ensures)

  -- its places are places of the term
  raised_in : hop.u < length places
  raised_in = rw (← entries) swap.from

  lowered_in : hop.v < length places
  lowered_in = rw (← entries) swap.onto

  -- and of the ground, two of them
  named : places ≡ g.T.Term.places c.index-terms-i.result
  named = c.elements-places.ensures

  ground : (u : ℕ) → u < length places → get_or places u 0 < length c.args.graph.now.spots.items
  ground u lu = subst (λ p. get_or p u 0 < length c.args.graph.now.spots.items) (sym named)
      (place_in c.requires.graph hop.term c.requires.inside c.index-terms-i.result
      c.index-terms-i.is u (subst (λ p. u < length p) named lu))

  distinct : AreDistinct places
  distinct = subst AreDistinct (places_are c.requires.graph hop.term c.requires.inside
      c.index-terms-i.result c.index-terms-i.is ∙ sym named)
      (distinct_at c.requires.graph hop.term c.requires.inside c.index-terms-i.result
      c.index-terms-i.is)

  apart : get_or places hop.u 0 ≢ get_or places hop.v 0
  apart same = swap.apart (distinct hop.u hop.v raised_in lowered_in same)

  -- the sums after it
  sums_after : let t = g.T.Term in AreSums (meanings t.places t.value_of c.args.terms.now)
      (length c.args.graph.now.spots.items)
      (set c.args.graph.now.bases hop.term (exchanged x hop.u hop.v c.args.a))
      (exchanged c.args.graph.now.sums.items (get_or places hop.u 0) (get_or places hop.v 0)
      c.args.a)
  sums_after =
      let r = c.requires in
      sums_exchanged r.graph.are_sums hop.term hop.u hop.v c.args.a (rw (counted r.graph) r.inside)
      (base_count r.graph ∙ sym (counted r.graph)) places
      (c.elements-places.ensures ∙ sym
      (places_are r.graph hop.term r.inside c.index-terms-i.result c.index-terms-i.is)) entries
      raised_in lowered_in swap.apart (ground hop.u raised_in) (ground hop.v lowered_in) apart

pub bounds-places-hop : goal.bounds-places-hop
bounds-places-hop g c = raised_in g (goal.at.bounds-places-hop g c).After-elements-places

pub row-x-requires : goal.row-x-requires
row-x-requires g c = rw (base_count c.requires.graph) c.requires.inside

pub move_kept-requires-clause-based : goal.move_kept-requires-clause-based
move_kept-requires-clause-based g c =
    given_base g (goal.at.move_kept-requires-clause-based g c).After-row-x

pub move_kept-requires-clause-noted : goal.move_kept-requires-clause-noted
move_kept-requires-clause-noted g c =
    let fq : FitsSigned w128 c.args.q = c.ranges.q in
    let r = c.requires in
    let term = c.index-terms-i.result in
    let F : List ℤ → Type 0 = λ x. kept_fits g.T.Term.fits term c.index_mut-note.result.now c.args.q
    x in
    let fit : F c.row-x.result.now = subst F (sym c.row-x.ensures)
    (r.graph.noted c.args.hop.term r.inside term c.index-terms-i.is c.index_mut-note.result.now
    c.index_mut-note.ensures.value) in
    simp to_z-of_z fit

pub move_kept-requires-clause-can : goal.move_kept-requires-clause-can
move_kept-requires-clause-can g c = can g (goal.at.move_kept-requires-clause-can g c).After-row-x

pub exchange-requires : goal.exchange-requires
exchange-requires g c =
    let at = (goal.at.exchange-requires g c).After-row-x in
    let r = c.requires in
    let hop = c.args.hop in
    let fa : FitsSigned w128 c.args.a = c.ranges.a in
    let x = base_at c.args.graph.now.bases hop.term in
    let s : CanSwap (times c.args.q (g.T.Term.value_of c.index-terms-i.result)) x hop.u hop.v
    c.args.a = rw (means r.graph hop.term r.inside c.index-terms-i.result c.index-terms-i.is) at
    r.can.swap in
    let small = (here g at).based.small in
    let one : IsEntry (get_or x hop.u (pos 0)) = All-get_or IsEntry x hop.u (pos 0) s.from small in
    let other : IsEntry (get_or x hop.v (pos 0)) = All-get_or IsEntry x hop.v (pos 0) s.onto
    small in
    let low = s.low in
    let high = s.high in
    simp to_z-of_z (record {
      inside = rw (base_count r.graph) r.inside;
      from = s.from;
      onto = s.onto;
      apart = s.apart;
      one = record { low = omega (arith, ints, one.low); high = omega (arith, ints, one.high) };
      other = record {
        low = omega (arith, ints, other.low);
        high = omega (arith, ints, other.high);
      };
      amount = record { low = omega (arith, ints, low); high = omega (arith, ints, high) };
    })

pub row-x-requires-2 : goal.row-x-requires-2
row-x-requires-2 g c =
    let r = c.requires in
    rw (c.exchange.ensures, length-set, base_count r.graph) r.inside

pub renew_kept-requires-clause-based : goal.renew_kept-requires-clause-based
renew_kept-requires-clause-based g c =
    let fq : FitsSigned w128 c.args.q = c.ranges.q in
    let at = goal.at.renew_kept-requires-clause-based g c in
    simp to_z-of_z (still g at.After-row-x-2 (here g at.After-row-x))

pub renew_kept-requires-clause-noted : goal.renew_kept-requires-clause-noted
renew_kept-requires-clause-noted g c =
    let hop = c.args.hop in
    let bases = c.args.graph.now.bases in
    let r = c.requires in
    let fa : FitsSigned w128 c.args.a = c.ranges.a in
    let at = (goal.at.renew_kept-requires-clause-noted g c).After-row-x-2 in
    let same : c.row-x-2.result.now ≡ exchanged c.row-x.result.now hop.u hop.v c.args.a = came g at
    ∙ ap (λ x. exchanged x hop.u hop.v c.args.a) (sym c.row-x.ensures) in
    rw same (simp to_z-of_z at c.in_ok-move_kept.ensures)

pub renew_kept-requires-clause-rows : goal.renew_kept-requires-clause-rows
renew_kept-requires-clause-rows g c =
    let r = c.requires in
    let at = goal.at.renew_kept-requires-clause-rows g c in
    let shown = rows_shown r.graph c.args.hop.term r.inside c.index-terms-i.result
    c.index-terms-i.is c.index_mut-rows.result.now c.index_mut-rows.ensures.value in
    shown.1 ∙ sym (still g at.After-row-x-2 (here g at.After-row-x)).based.entries

pub renew_kept-requires-clause-before : goal.renew_kept-requires-clause-before
renew_kept-requires-clause-before g c =
    let fq : FitsSigned w128 c.args.q = c.ranges.q in
    let fa : FitsSigned w128 c.args.a = c.ranges.a in
    let r = c.requires in
    let i = c.args.hop.term in
    let at = goal.at.renew_kept-requires-clause-before g c in
    let shown = rows_shown r.graph c.args.hop.term r.inside c.index-terms-i.result
    c.index-terms-i.is c.index_mut-rows.result.now c.index_mut-rows.ensures.value in
    let claimed_are = claimed_shown r.graph i r.inside c.index-terms-i.result c.index-terms-i.is
    c.index_mut-claimed.result.now c.index_mut-claimed.ensures.value in
    let told : AreClaims (g.T.Term.places c.index-terms-i.result)
    (times c.args.q (g.T.Term.value_of c.index-terms-i.result))
    (base_at c.args.graph.now.bases i) c.index_mut-claimed.result.now
    c.index_mut-rows.result.now =
    rw (shown.0, claimed_are) (claims_at r.graph i r.inside c.index-terms-i.result
    c.index-terms-i.is) in
    let same = long g at.After-row-x-2 in
    simp to_z-of_z (record {
      pair = record {
        apart = r.can.swap.apart;
        from = rw same r.can.swap.from;
        onto = rw same r.can.swap.onto;
      };
      before = base_at c.args.graph.now.bases i;
      came = record {
        base = (here g at.After-row-x).based.base;
        amount = c.args.a;
        some = r.low;
        is = came g at.After-row-x-2;
      };
      claims = told;
    })

pub renew-requires-clause-rows : goal.renew-requires-clause-rows
renew-requires-clause-rows g c =
    let r = c.requires in
    let shown = rows_shown r.graph c.args.hop.term r.inside c.index-terms-i.result
    c.index-terms-i.is c.index_mut-rows.result.now c.index_mut-rows.ensures.value in
    rw (c.deref.ensures.value, c.deref-2.ensures.value)
    (rows_after r.graph c.args.hop.term r.inside c.index-terms-i.result c.index-terms-i.is
    c.renew_kept.new.rows (c.in_ok-changes.ensures.rows ∙ shown.1))

pub renew-requires-clause-few : goal.renew-requires-clause-few
renew-requires-clause-few g c = rw c.deref.ensures.value c.requires.graph.bounded.few

pub renew-requires-clause-count : goal.renew-requires-clause-count
renew-requires-clause-count g c = rw c.deref.ensures.value c.requires.graph.are_unions.count

pub renew-requires-clause-turned : goal.renew-requires-clause-turned
renew-requires-clause-turned g c = c.requires.graph.are_turned

pub renew-requires-clause-placed : goal.renew-requires-clause-placed
renew-requires-clause-placed g c = λ k one.
    let (u, lu, is) = c.in_ok-changes.ensures.raised.changes.inside k (inr one) in
    rw (c.deref.ensures.value, ← is)
    (place_in c.requires.graph c.args.hop.term c.requires.inside c.index-terms-i.result
    c.index-terms-i.is u lu)

pub widen-requires-clause-placed : goal.widen-requires-clause-placed
widen-requires-clause-placed g c =
    rw c.elements-places.ensures (here g
    (goal.at.widen-requires-clause-placed g c).After-row-x).placed

pub widen-requires-clause-inside : goal.widen-requires-clause-inside
widen-requires-clause-inside g c = λ u lu.
    let r = c.requires in
    let places = c.elements-places.ensures in
    let count : length c.renew.new.unions.items ≡ length
    c.args.graph.now.spots.items = c.renew.ensures.renewed.count ∙ r.graph.are_unions.count in
    let below = place_in r.graph c.args.hop.term r.inside c.index-terms-i.result c.index-terms-i.is
    u (rw places at lu) in
    rw (places, count) below

pub widen-requires-clause-turned : goal.widen-requires-clause-turned
widen-requires-clause-turned g c = c.renew.ensures.turned

pub widen-requires-clause-rows : goal.widen-requires-clause-rows
widen-requires-clause-rows g c =
    let r = c.requires in
    let shown = rows_shown r.graph c.args.hop.term r.inside c.index-terms-i.result
    c.index-terms-i.is c.index_mut-rows.result.now c.index_mut-rows.ensures.value in
    let table : c.index.result.now ≡ c.renew_kept.new.rows = c.index.ensures
    ∙ get_or-set_same c.args.graph.now.rows.items c.args.hop.term c.renew_kept.new.rows
    c.index.result.now (rw (rows_count r.graph) r.inside) in
    rw (table, c.elements-places.ensures) (c.in_ok-changes.ensures.rows ∙ shown.1)

pub returns-clause-moved : goal.returns-clause-moved
returns-clause-moved g c = moved g (goal.at.returns-clause-moved g c).After-row-x-2

pub returns-clause-graph : goal.returns-clause-graph
returns-clause-graph g c =
    let fq : FitsSigned w128 c.args.q = c.ranges.q in
    let r = c.requires in
    let i = c.args.hop.term in
    let term = c.index-terms-i.result in
    let is = c.index-terms-i.is in
    let at = goal.at.returns-clause-graph g c in
    let y = c.row-x-2.result.now in
    let e = c.in_ok-changes.ensures in
    let shown = rows_shown r.graph c.args.hop.term r.inside c.index-terms-i.result
    c.index-terms-i.is c.index_mut-rows.result.now c.index_mut-rows.ensures.value in
    let raised = rw shown.0 at (simp to_z-of_z at e.raised) in
    let noted : kept_fits g.T.Term.fits term c.renew_kept.new.kept c.args.q y = simp to_z-of_z at
    e.noted in
    let mid = c.renew.new.unions.items in
    let table : c.index.result.now ≡ c.renew_kept.new.rows = c.index.ensures
    ∙ get_or-set_same c.args.graph.now.rows.items i c.renew_kept.new.rows c.index.result.now
    (rw (rows_count r.graph) r.inside) in
    let united = united_by r.graph i r.inside term is c.renew_kept.new.rows c.in_ok-changes.changes
    mid c.widen.new.unions.items raised.changes
    (rw (c.deref.ensures.value, c.deref-2.ensures.value) at c.renew.ensures.renewed)
    (rw (c.elements-places.ensures, table) at c.widen.ensures.widened) in
    let fa : FitsSigned w128 c.args.a = c.ranges.a in
    let sums = c.args.graph.now.sums in
    let became : c.move_sums.new.sums ≡ exchanged sums.items
    (get_or c.elements-places.result.now c.args.hop.u 0)
    (get_or c.elements-places.result.now c.args.hop.v 0) c.args.a
    = simp to_z-of_z at (rw c.deref_mut.ensures.value at c.move_sums.ensures) in
    let long = c.move_sums.auto.sums ∙ ap length c.deref_mut.ensures.value in
    let whole : take sums.len (c.move_sums.new.sums ++ drop (length c.move_sums.new.sums)
    sums.items) ≡ c.move_sums.new.sums = take_at c.move_sums.new.sums
    (drop (length c.move_sums.new.sums) sums.items) sums.len (long ∙ sym sums.ok.0) in
    let t = g.T.Term in
    let added : AreSums (meanings t.places t.value_of c.args.terms.now)
    (length c.args.graph.now.spots.items) (set c.args.graph.now.bases i y)
    c.move_sums.new.sums = rw (came g at.After-row-x-2, became)
    (sums_after g at.After-elements-places) in
    let refilled = subst (AreSums (meanings t.places t.value_of c.args.terms.now)
    (length c.args.graph.now.spots.items) (set c.args.graph.now.bases i y)) (sym whole) added in
    rw (changed g at.After-row-x-2)
    (claimed_after r.graph i r.inside term is y c.renew_kept.new.kept c.renew_kept.new.rows
    c.renew_kept.new.claimed _ refilled (still g at.After-row-x-2 (here g at.After-row-x)) noted
    (e.rows ∙ shown.1)
    raised.claims united c.widen.ensures.turned refl refl refl refl refl)

pub index_mut-note-requires : goal.index_mut-note-requires
index_mut-note-requires g c = omega (
  arith,
  c.requires.inside,
  c.requires.graph.note_count,
  c.args.graph.now.notes.ok.0,
)

pub offset_bounds-terms-i : goal.offset_bounds-terms-i
offset_bounds-terms-i g c = omega (arith, c.requires.inside)

pub bounds-terms-i : goal.bounds-terms-i
bounds-terms-i g c = c.requires.inside

pub index_mut-rows-requires : goal.index_mut-rows-requires
index_mut-rows-requires g c = let r = rows_count
    c.requires.graph in omega (arith, c.requires.inside, r, c.args.graph.now.rows.ok.0)

pub index_mut-claimed-requires : goal.index_mut-claimed-requires
index_mut-claimed-requires g c =
    omega (arith, c.requires.inside, c.requires.graph.claim_count, c.args.graph.now.claimed.ok.0)

pub index-requires : goal.index-requires
index-requires g c = let r = rows_count
    c.requires.graph in omega (arith, c.requires.inside, r, c.args.graph.now.rows.ok.0)

pub bounds-places-hop-2 : goal.bounds-places-hop-2
bounds-places-hop-2 g c = lowered_in g (goal.at.bounds-places-hop-2 g c).After-elements-places

pub move_sums-requires-clause-apart : goal.move_sums-requires-clause-apart
move_sums-requires-clause-apart g c =
    apart g (goal.at.move_sums-requires-clause-apart g c).After-elements-places

pub move_sums-requires-clause-from : goal.move_sums-requires-clause-from
move_sums-requires-clause-from g c =
    let at = (goal.at.move_sums-requires-clause-from g c).After-elements-places in
    rw (c.deref_mut.ensures.value, c.requires.graph.are_sums.places)
    (ground g at c.args.hop.u (raised_in g at))

pub move_sums-requires-clause-onto : goal.move_sums-requires-clause-onto
move_sums-requires-clause-onto g c =
    let at = (goal.at.move_sums-requires-clause-onto g c).After-elements-places in
    rw (c.deref_mut.ensures.value, c.requires.graph.are_sums.places)
    (ground g at c.args.hop.v (lowered_in g at))

pub move_sums-requires-clause-small : goal.move_sums-requires-clause-small
move_sums-requires-clause-small g c =
    let t = g.T.Term in
    let r = c.requires in
    rw c.deref_mut.ensures.value (sums_small t.places t.value_of c.args.terms.now
    (length c.args.graph.now.spots.items) c.args.graph.now.bases c.args.graph.now.sums.items
    r.graph.are_sums r.small r.graph.bounded.few_places)
