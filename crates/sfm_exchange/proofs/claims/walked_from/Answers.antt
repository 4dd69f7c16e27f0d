use Rattle.std.proofs.Common.{◌≡◌, ◌<◌, length, ◌∙◌, arith, FitsSigned}
use Rattle.std.proofs.lemmas.Int.{to_z-of_z}
use Rattle.std.proofs.lemmas.List.{get_or_default}
use mir.Syntax.{w128}
use Rattle.sfm_spec.specs.Families.{meanings}
use Rattle.sfm_spec.proofs.Walks.{step_below}
use Rattle.sfm_reach.specs.Bits.{blank_bits, set_at}
use Rattle.sfm_exchange.specs.Graph.{IsStill}
use Rattle.sfm_reach.specs.Unions.{IsArc}
use Rattle.sfm_exchange.proofs.Asked.{bit_back}
use Rattle.sfm_exchange.proofs.ClaimedGraphs.{are_terms, have_links, low, unions_count}
use Rattle.sfm_reach.proofs.Options.{match_none}
use Rattle.sfm_reach.proofs.Searching.{IsLook, ahead_below, search_begun, search_more, search_shrinks, walks_done}
use Rattle.sfm_exchange.proofs.Still.{still_begun, still_ready, still_then}
use Rattle.sfm_exchange.proofs.claims.walked_from.Given as given
use Rattle.sfm_exchange.proofs.claims.walked_from.Goals as goal
use Rattle.sfm_exchange.proofs.claims.walked_from.Goals.{After-take_in}

-- the graph afterwards is one at the bases of the one before
after : (g : given.Over) (c : After-take_in g)
    → let t = g.T.Term in IsStill t c.args.terms.now c.args.q c.args.graph.now
    c.settle_place.new.graph
after g c =
    let fq : FitsSigned w128 c.args.q = c.ranges.q in
    let inv = simp to_z-of_z at c.loop-e.invariant in
    still_then inv.0 (simp to_z-of_z at c.in_ok-settle_place.ensures.still)

-- one place is looked at, by the row of the graph, which has arcs alone there
look : (g : given.Over) (c : After-take_in g)
    → let t = g.T.Term in IsLook (length c.args.graph.now.spots.items)
    (IsArc (meanings t.places t.value_of c.args.terms.now) c.args.q c.args.graph.now.bases)
    c.args.firsts.now
    c.loop-e.found c.loop-e.ahead c.in-Some.e
    (set_at c.settle_place.new.graph.unions.items c.in-Some.e) c.remove.new.self
    c.take_in.new.found c.take_in.new.ahead
look g c =
    let t = g.T.Term in
    let m = g.met.T.Term in
    let fq : FitsSigned w128 c.args.q = c.ranges.q in
    let ts = meanings t.places t.value_of c.args.terms.now in
    let n = length c.args.graph.now.spots.items in
    let inv = simp to_z-of_z at c.loop-e.invariant in
    let e = c.in-Some.e in
    let o = c.in_ok-settle_place.ensures in
    let unions = c.settle_place.new.graph.unions.items in
    let h = (after g c).claimed in
    let same = (after g c).bases in
    let fit = are_terms h m.family m.submodular in
    let below : e < n = ahead_below _ _ _ _ _ inv.1 e c.in-Some.ensures.1 in
    let exact = rw inv.0.bases at (simp to_z-of_z at o.exact) in
    let links = rw same at (have_links h fit) in
    let read : c.index-row.result.now ≡ set_at unions e = c.index-row.ensures
    ∙ get_or_default unions e c.index-row.result.now blank_bits (rw (unions_count h) below) in
    record {
      so_far = inv.1;
      chosen = c.in-Some.ensures.1;
      tells = λ k. (exact k, links e k below);
      links = λ k (i, is). step_below ts c.args.graph.now.bases n c.args.q (low h) fit
          (rw same at h.are_bases) e (record { to = k; term = i }) is;
      out = c.remove.ensures.out;
      others = c.remove.ensures.others;
      taken = rw read at c.take_in.ensures;
    }

pub loop-e-init : goal.loop-e-init
loop-e-init g c =
    let t = g.T.Term in
    let fq : FitsSigned w128 c.args.q = c.ranges.q in
    let graph = c.args.graph.now in
    simp to_z-of_z (
      still_begun c.requires.ready.claimed,
      search_begun (length graph.spots.items)
          (IsArc (meanings t.places t.value_of c.args.terms.now) c.args.q graph.bases)
          c.args.firsts.now c.requires.firsts,
      (λ j t one. c.claimed_places-claimed.ensures j t (rw c.deref.ensures.value one)),
    )

pub settle_place-requires-clause-ready : goal.settle_place-requires-clause-ready
settle_place-requires-clause-ready g c = still_ready c.loop-e.invariant.0 c.requires.ready.small

pub settle_place-requires-clause-place : goal.settle_place-requires-clause-place
settle_place-requires-clause-place g c =
    let inv = c.loop-e.invariant in
    rw inv.0.claimed.are_spots.count (ahead_below _ _ _ _ _ inv.1 c.in-Some.e c.in-Some.ensures.1)

pub index-row-requires : goal.index-row-requires
index-row-requires g c =
    let fq : FitsSigned w128 c.args.q = c.ranges.q in
    let inv = c.loop-e.invariant in
    let h = simp to_z-of_z at c.in_ok-settle_place.ensures.still.claimed in
    let l : c.in-Some.e < length c.settle_place.new.graph.unions.items = rw (
      unions_count h,
      inv.0.claimed.are_spots.count,
    )
    (ahead_below _ _ _ _ _ inv.1 c.in-Some.e c.in-Some.ensures.1) in
    omega (arith, l, c.settle_place.new.graph.unions.ok.0)

pub loop-e-preserved : goal.loop-e-preserved
loop-e-preserved g c =
    let fq : FitsSigned w128 c.args.q = c.ranges.q in
    let at = (goal.at.loop-e-preserved g c).After-take_in in
    let kept = c.in_ok-settle_place.ensures.kept in
    let inv = c.loop-e.invariant in
    simp to_z-of_z (
      after g at,
      search_more (look g at),
      (λ j t one. inv.2 j t (bit_back (set_at c.loop-e.graph.claimed.items j)
          (set_at c.settle_place.new.graph.claimed.items j) t (kept j t) one)),
    )

pub loop-e-smaller : goal.loop-e-smaller
loop-e-smaller g c = search_shrinks (look g (goal.at.loop-e-smaller g c).After-take_in)
    c.in-Some.ensures.0

pub returns-clause-still : goal.returns-clause-still
returns-clause-still g c = let fq : FitsSigned w128 c.args.q = c.ranges.q in simp to_z-of_z at
    c.loop-e.invariant.0

pub returns-clause-walked : goal.returns-clause-walked
returns-clause-walked g c =
    let t = g.T.Term in
    let fq : FitsSigned w128 c.args.q = c.ranges.q in
    let inv = simp to_z-of_z at c.loop-e.invariant in
    walks_done (meanings t.places t.value_of c.args.terms.now) (length c.args.graph.now.spots.items)
    c.args.q c.args.graph.now.bases c.args.firsts.now c.loop-e.found c.loop-e.ahead inv.1
    (match_none c.first.result _ _ c.first.ensures c.in_default.not-Some)

pub settle_place-requires-clause-claimed : goal.settle_place-requires-clause-claimed
settle_place-requires-clause-claimed g c = c.loop-e.invariant.2
