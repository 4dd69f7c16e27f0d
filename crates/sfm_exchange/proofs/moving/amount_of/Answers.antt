use Rattle.std.proofs.Common.{◌≡◌, ◌<◌, ◌∙◌, [], List, length, length-set, ap, subst, sym, rules, arith, FitsSigned, ℤ, to_z}
use Rattle.std.specs.List.{All}
use Rattle.std.proofs.lemmas.Int.{ints, to_z-of_z}
use Rattle.std.proofs.lemmas.List.Elements.{All-get_or}
use mir.Syntax.{w128}
use Rattle.sfm_spec.specs.Bounds.{IsEntry}
use Rattle.sfm_spec.specs.Families.{meanings}
use Rattle.sfm_spec.specs.Terms.{times}
use Rattle.sfm_spec.specs.Walks.{base_at, term_at}
use Rattle.sfm_law.specs.Based.{IsBased}
use Rattle.sfm_law.specs.Room.{IsCapacityUpto}
use Rattle.sfm_reach.specs.Reach.{kept_fits}
use Rattle.sfm_reach.proofs.Basing.{size_low}
use Rattle.sfm_exchange.specs.Hops.{hop_at}
use Rattle.sfm_exchange.proofs.Amounts.{amount_none, amount_more}
use Rattle.sfm_exchange.proofs.ClaimedGraphs.{base_count, based, counted, means, noted_still, places_are}
use Rattle.sfm_exchange.proofs.Still.{still_begun}
use Rattle.sfm_exchange.proofs.moving.amount_of.Given as given
use Rattle.sfm_exchange.proofs.moving.amount_of.Goals as goal
use Rattle.sfm_exchange.proofs.moving.amount_of.Goals.{After-at-1}

pub loop-hop-init : goal.loop-hop-init
loop-hop-init g c =
    let t = g.T.Term in
    let fq : FitsSigned w128 c.args.q = c.ranges.q in
    let fm : FitsSigned w128 c.args.most = c.ranges.most in
    simp to_z-of_z (
      amount_none (meanings t.places t.value_of c.args.terms.now) c.args.q
          c.args.graph.now.bases c.args.hops.now c.args.most c.requires.most,
      still_begun c.requires.ready.claimed,
    )

pub index_mut-note-requires : goal.index_mut-note-requires
index_mut-note-requires g c =
    let h = c.loop-hop.invariant.1.claimed in
    let l = rw (counted h) at (c.requires.movable c.loop-hop.hop-index
    c.loop-hop-test.true).term_in in
    omega (arith, l, h.note_count, c.loop-hop.graph.notes.ok.0)

pub bounds-terms-i : goal.bounds-terms-i
bounds-terms-i g c = rw (counted c.requires.ready.claimed) at
    (c.requires.movable c.loop-hop.hop-index c.loop-hop-test.true).term_in

pub offset_bounds-terms-i : goal.offset_bounds-terms-i
offset_bounds-terms-i g c =
    let l = rw (counted c.requires.ready.claimed) at
    (c.requires.movable c.loop-hop.hop-index c.loop-hop-test.true).term_in in
    omega (arith, l)

pub row-x-requires : goal.row-x-requires
row-x-requires g c = rw (base_count c.loop-hop.invariant.1.claimed)
    (rw (counted c.requires.ready.claimed) at
    (c.requires.movable c.loop-hop.hop-index c.loop-hop-test.true).term_in)

-- the step is one of a term
term_in : (g : given.Over) (c : After-at-1 g)
    → (hop_at c.args.hops.now c.loop-hop.hop-index).term < length c.args.terms.now
term_in g c = rw (counted c.requires.ready.claimed) at
    (c.requires.movable c.loop-hop.hop-index c.loop-hop-test.true).term_in

-- whose base is within the bounds
here : (g : given.Over) (c : After-at-1 g)
    → let t = g.T.Term in IsBased t.places t.value_of t.size_of c.index-terms-i.result c.args.q
    c.row-x.result.now
here g c =
    let t = g.T.Term in
    let m = g.met.T.Term in
    let fq : FitsSigned w128 c.args.q = c.ranges.q in
    let still = simp to_z-of_z at c.loop-hop.invariant.1 in
    let h = still.claimed in
    let i = (hop_at c.args.hops.now c.loop-hop.hop-index).term in
    let l = term_in g c in
    let term = c.index-terms-i.result in
    let bases = c.loop-hop.graph.bases in
    let sound = size_low t.places t.value_of t.size_of m.submodular m.bounded in
    let B : List ℤ → Type 0 = λ x. IsBased t.places t.value_of t.size_of term c.args.q x in
    subst B (sym c.row-x.ensures)
    (based h i l term c.index-terms-i.is sound
    (All-get_or (λ x. All IsEntry x) bases i [] (rw (base_count h) l)
    (rw still.bases c.requires.ready.small))).based

-- with an entry for each of its places
long : (g : given.Over) (c : After-at-1 g)
    → length c.row-x.result.now ≡ length
    (term_at (meanings g.T.Term.places g.T.Term.value_of c.args.terms.now)
    (hop_at c.args.hops.now c.loop-hop.hop-index).term).places
long g c =
    let fq : FitsSigned w128 c.args.q = c.ranges.q in
    let still = simp to_z-of_z at c.loop-hop.invariant.1 in
    (here g c).entries
    ∙ sym (ap length (places_are still.claimed
    (hop_at c.args.hops.now c.loop-hop.hop-index).term (term_in g c) c.index-terms-i.result
    c.index-terms-i.is))

pub room_kept-requires-clause-based : goal.room_kept-requires-clause-based
room_kept-requires-clause-based g c =
    let fq : FitsSigned w128 c.args.q = c.ranges.q in
    simp to_z-of_z (here g (goal.at.room_kept-requires-clause-based g c).After-at-1)

pub room_kept-requires-clause-noted : goal.room_kept-requires-clause-noted
room_kept-requires-clause-noted g c =
    let fq : FitsSigned w128 c.args.q = c.ranges.q in
    let still = simp to_z-of_z at c.loop-hop.invariant.1 in
    let term = c.index-terms-i.result in
    let F : List ℤ → Type 0 = λ x. kept_fits g.T.Term.fits term c.index_mut-note.result.now c.args.q
    x in
    let noted : F c.row-x.result.now = subst F (sym c.row-x.ensures)
    (still.claimed.noted (hop_at c.args.hops.now c.loop-hop.hop-index).term
    (term_in g (goal.at.room_kept-requires-clause-noted g c).After-at-1) term c.index-terms-i.is
    c.index_mut-note.result.now c.index_mut-note.ensures.value) in
    simp to_z-of_z noted

pub room_kept-requires-clause-pair : goal.room_kept-requires-clause-pair
room_kept-requires-clause-pair g c =
    let can = c.requires.movable c.loop-hop.hop-index c.loop-hop-test.true in
    let places = long g (goal.at.room_kept-requires-clause-pair g c).After-at-1 in
    record { apart = can.apart; from = rw places can.u_in; onto = rw places can.v_in }

pub loop-hop-preserved : goal.loop-hop-preserved
loop-hop-preserved g c =
    let t = g.T.Term in
    let fq : FitsSigned w128 c.args.q = c.ranges.q in
    let fm : FitsSigned w128 c.args.most = c.ranges.most in
    let ts = meanings t.places t.value_of c.args.terms.now in
    let k = c.loop-hop.hop-index in
    let inv = simp to_z-of_z at c.loop-hop.invariant in
    let h = inv.1.claimed in
    let can = c.requires.movable k c.loop-hop-test.true in
    let hop = hop_at c.args.hops.now k in
    let i = hop.term in
    let l : i < length c.args.terms.now = rw (counted h) at can.term_in in
    let term = c.index-terms-i.result in
    let is = c.index-terms-i.is in
    let graph = c.loop-hop.graph in
    let note = c.room_kept.new.kept in
    let o = c.in_ok-a.ensures in
    let a : ℤ = to_z w128 c.loop-hop.a-bits in
    let b : ℤ = c.in_ok-a.a in
    let fb : FitsSigned w128 b = search rules in
    let told = rw c.row-x.ensures at (simp to_z-of_z at o.room) in
    let here : IsCapacityUpto (times c.args.q (term_at ts i).value) (base_at graph.bases i) hop.u
    hop.v a b = rw (means h i l term is) told in
    let upto = rw inv.1.bases at here in
    let fit : kept_fits t.fits term note c.args.q (base_at graph.bases i) = rw c.row-x.ensures at
    (simp to_z-of_z at o.noted) in
    let more = amount_more ts c.args.q c.args.graph.now.bases c.requires.ready.claimed.are_bases
    c.args.hops.now k c.args.most a b can inv.0 upto
    (λ j lj. c.requires.movable j (omega (arith, lj, c.loop-hop-test.true))) in
    simp to_z-of_z (
      more,
      record {
        claimed = record {
          bounded = h.bounded;
          factor = h.factor;
          are_bases = h.are_bases;
          are_sums = h.are_sums;
          note_count = length-set graph.notes.items i note ∙ h.note_count;
          claim_count = h.claim_count;
          noted = noted_still h i l term is note fit;
          sized_rows = h.sized_rows;
          claims = h.claims;
          are_spots = h.are_spots;
          are_unions = h.are_unions;
          are_turned = h.are_turned;
        };
        bases = inv.1.bases;
      },
    )

pub returns-clause-still : goal.returns-clause-still
returns-clause-still g c = let fq : FitsSigned w128 c.args.q = c.ranges.q in simp to_z-of_z at
    c.loop-hop.invariant.1

pub returns-clause-greatest : goal.returns-clause-greatest
returns-clause-greatest g c =
    let fq : FitsSigned w128 c.args.q = c.ranges.q in
    let fm : FitsSigned w128 c.args.most = c.ranges.most in
    let inv = simp to_z-of_z at c.loop-hop.invariant in
    let done : c.loop-hop.hop-index ≡ length
    c.args.hops.now = omega (arith, c.loop-hop.auto.hop-index-end, c.loop-hop-test.false) in
    λ b lb moves. inv.0.greatest b lb (λ j l. moves j (omega (arith, l, done)))

pub returns-clause-some : goal.returns-clause-some
returns-clause-some g c = c.loop-hop.invariant.0.some

pub returns-clause-within : goal.returns-clause-within
returns-clause-within g c =
    let fm : FitsSigned w128 c.args.most = c.ranges.most in
    simp to_z-of_z at c.loop-hop.invariant.0.within

pub returns-clause-moves : goal.returns-clause-moves
returns-clause-moves g c =
    let fq : FitsSigned w128 c.args.q = c.ranges.q in
    let inv = simp to_z-of_z at c.loop-hop.invariant in
    let done : c.loop-hop.hop-index ≡ length
    c.args.hops.now = omega (arith, c.loop-hop.auto.hop-index-end, c.loop-hop-test.false) in
    λ k l. inv.0.moves k (omega (arith, l, done))

pub room_kept-requires-clause-wanted : goal.room_kept-requires-clause-wanted
room_kept-requires-clause-wanted g c =
    let some = c.loop-hop.invariant.0.some in omega (arith, ints, some)
