use Rattle.std.proofs.Common.{◌≡◌, ◌≢◌, ◌+◌, ◌<◌, ⊎_elim, [], ℕ, length, refl, ap, subst, ◌∙◌, arith, FitsSigned}
use Rattle.std.proofs.lemmas.Bool.{cases_lt}
use Rattle.std.proofs.lemmas.Int.{to_z-of_z}
use Rattle.std.proofs.lemmas.List.{get_or_default}
use mir.Syntax.{w128}
use Rattle.sfm_spec.specs.Families.{meanings}
use Rattle.sfm_reach.specs.Bits.{bit_in, set_at}
use Rattle.sfm_reach.specs.Spots.{IsSpot, spot_at, spots_at}
use Rattle.sfm_exchange.proofs.ClaimedGraphs.{arcs_alone, counted}
use Rattle.sfm_exchange.proofs.Still.{still_begun, still_ready, still_then}
use Rattle.sfm_exchange.proofs.claims.ask_place.Given as given
use Rattle.sfm_exchange.proofs.claims.ask_place.Goals as goal
use Rattle.sfm_exchange.proofs.claims.ask_place.Goals.{After-as_slice-at}

-- the spots of the place stay what they were
here : (g : given.Over) (c : After-as_slice-at g)
    → c.as_slice-at.result.now ≡ spots_at c.args.graph.now.spots.items c.args.e
here g c =
    let e = c.args.e in
    let same = c.loop-k.invariant.1 in
    c.as_slice-at.ensures ∙ (c.index-spots.ensures
    ∙ (get_or_default c.loop-k.graph.spots.items e c.index-spots.result.now []
    (rw same c.requires.place) ∙ ap (λ s. spots_at s e) same))

-- and this is one of them
below : (g : given.Over) (c : After-as_slice-at g)
    → c.loop-k.k < length (spots_at c.args.graph.now.spots.items c.args.e)
below g c =
    let spots = c.args.graph.now.spots.items in
    rw (
      c.as_slice-listed.ensures,
      c.index-here.ensures ∙ get_or_default spots c.args.e c.index-here.result.now []
          c.requires.place,
    ) at c.loop-k-test.true

is_spot : (g : given.Over) (c : After-as_slice-at g)
    → let t = g.T.Term in IsSpot (meanings t.places t.value_of c.args.terms.now) c.args.e
    (spot_at (spots_at c.args.graph.now.spots.items c.args.e) c.loop-k.k)
is_spot g c = c.requires.ready.claimed.are_spots.sound c.args.e c.loop-k.k c.requires.place
    (below g c)

pub loop-k-init : goal.loop-k-init
loop-k-init g c =
    let fq : FitsSigned w128 c.args.q = c.ranges.q in
    simp to_z-of_z (
      still_begun c.requires.ready.claimed,
      refl,
      (λ j l. absurd (omega (arith, l))),
      (λ j t out. out),
    )

pub index-spots-requires : goal.index-spots-requires
index-spots-requires g c =
    let l : c.args.e < length c.loop-k.graph.spots.items = rw c.loop-k.invariant.1
    c.requires.place in
    omega (arith, l, c.loop-k.graph.spots.ok.0)

pub bounds-at-k : goal.bounds-at-k
bounds-at-k g c = let at = (goal.at.bounds-at-k g c).After-as_slice-at in rw (here g at)
    (below g at)

pub ask_at-requires-clause-ready : goal.ask_at-requires-clause-ready
ask_at-requires-clause-ready g c = still_ready c.loop-k.invariant.0 c.requires.ready.small

pub ask_at-requires-clause-term : goal.ask_at-requires-clause-term
ask_at-requires-clause-term g c =
    let at = (goal.at.ask_at-requires-clause-term g c).After-as_slice-at in
    rw (here g at) (rw (counted c.requires.ready.claimed) at (is_spot g at).term_in)

pub ask_at-requires-clause-place : goal.ask_at-requires-clause-place
ask_at-requires-clause-place g c =
    let at = (goal.at.ask_at-requires-clause-place g c).After-as_slice-at in rw (here g at)
    (is_spot g at).local_in

pub loop-k-preserved : goal.loop-k-preserved
loop-k-preserved g c =
    let t = g.T.Term in
    let fq : FitsSigned w128 c.args.q = c.ranges.q in
    let e = c.args.e in
    let at = (goal.at.loop-k-preserved g c).After-as_slice-at in
    let inv = simp to_z-of_z at c.loop-k.invariant in
    let o = c.in_ok-ask_at.ensures in
    let after = c.ask_at.new.graph in
    let S : ℕ → Type 0 = λ j. bit_in
    (set_at after.claimed.items (spot_at (spots_at c.args.graph.now.spots.items e) j).term)
    e ≢ 1 in
    let settled : S c.loop-k.k = rw (is_spot g at).at at (rw (here g at) at o.settled) in
    let each : (j : ℕ) → j < c.loop-k.k + 1
    → S j = λ j l. ⊎_elim (λ less. o.kept _ e (inv.2 j less))
    (λ ge. let same : c.loop-k.k ≡ j = omega (arith, ge, l) in subst S same settled)
    (cases_lt j c.loop-k.k) in
    simp to_z-of_z (
      still_then inv.0 (simp to_z-of_z at o.still),
      o.spots ∙ inv.1,
      each,
      (λ j t out. o.kept j t (inv.3 j t out)),
    )

pub returns-clause-still : goal.returns-clause-still
returns-clause-still g c = let fq : FitsSigned w128 c.args.q = c.ranges.q in simp to_z-of_z at
    c.loop-k.invariant.0

pub returns-clause-exact : goal.returns-clause-exact
returns-clause-exact g c =
    let fq : FitsSigned w128 c.args.q = c.ranges.q in
    let inv = simp to_z-of_z at c.loop-k.invariant in
    let spots = c.args.graph.now.spots.items in
    let here : c.index-here.result.now ≡ spots_at spots c.args.e = c.index-here.ensures
    ∙ get_or_default spots c.args.e c.index-here.result.now [] c.requires.place in
    let long = ap length (c.as_slice-listed.ensures ∙ here) in
    rw inv.0.bases at (arcs_alone inv.0.claimed c.args.e c.requires.place
    (rw inv.1 (λ j l. inv.2 j (omega (arith, l, long, c.loop-k-test.false)))))

pub returns-clause-spots : goal.returns-clause-spots
returns-clause-spots g c = c.loop-k.invariant.1

pub returns-clause-settled : goal.returns-clause-settled
returns-clause-settled g c =
    let inv = c.loop-k.invariant in
    let spots = c.args.graph.now.spots.items in
    let here : c.index-here.result.now ≡ spots_at spots c.args.e = c.index-here.ensures
    ∙ get_or_default spots c.args.e c.index-here.result.now [] c.requires.place in
    let long = ap length (c.as_slice-listed.ensures ∙ here) in
    λ j l. inv.2 j (omega (arith, l, long, c.loop-k-test.false))

pub returns-clause-kept : goal.returns-clause-kept
returns-clause-kept g c = c.loop-k.invariant.3
