use Rattle.std.proofs.Common.{◌≡◌, ◌+◌, ◌<◌, ⊎_elim, inl, [], ℕ, length, refl, sym, subst, ◌∙◌, arith, FitsSigned}
use Rattle.std.proofs.lemmas.Bool.{both_ways, cases_lt, false≢true}
use Rattle.std.proofs.lemmas.Int.{to_z-of_z}
use Rattle.std.proofs.lemmas.List.{get_or_default}
use mir.Syntax.{w128}
use Rattle.sfm_spec.specs.Families.{meanings}
use Rattle.sfm_reach.proofs.Noting.{there_is}
use Rattle.sfm_reach.specs.Bits.{bit_in, set_at}
use Rattle.sfm_reach.specs.Reach.{table_at}
use Rattle.sfm_exchange.specs.Hops.{IsHop, IsMovable, hop_at}
use Rattle.sfm_exchange.proofs.Asked.{asked_refused, asked_then, told_at, true_movable}
use Rattle.sfm_exchange.proofs.ClaimedGraphs.{counted, distinct_at, place_in, places_are, rows_count, rows_long}
use Rattle.sfm_exchange.proofs.Still.{still_begun, still_ready, still_then}
use Rattle.sfm_exchange.proofs.claims.prove_walk.Given as given
use Rattle.sfm_exchange.proofs.claims.prove_walk.Goals as goal
use Rattle.sfm_exchange.proofs.claims.prove_walk.Goals.{After-ask_at, After-index-rows}

-- the step that is looked at names places of its term, and a row tells it
told : (g : given.Over) (c : After-ask_at g)
    → let t = g.T.Term in let hop = hop_at c.args.hops.now c.loop-hop.hop-index in
    ((from : ℕ) × IsHop (meanings t.places t.value_of c.args.terms.now) from hop)
    × (bit_in (set_at (table_at c.args.graph.now.rows.items hop.term) hop.u) hop.to ≡ 1)
told g c = let t = g.T.Term in told_at (meanings t.places t.value_of c.args.terms.now)
    c.args.graph.now.rows.items c.requires.told.0 c.args.hops.now c.loop-hop.hop-index
    c.requires.told.1 c.loop-hop-test.true

-- its term is one of the terms
inside : (g : given.Over) (c : After-ask_at g)
    → (hop_at c.args.hops.now c.loop-hop.hop-index).term < length c.args.terms.now
inside g c = rw (counted c.requires.ready.claimed) at (told g c).0.1.term_in

-- the rows of the term, once that of the place is asked
table : (g : given.Over) (c : After-index-rows g)
    → let i = (hop_at c.args.hops.now c.loop-hop.hop-index).term in i < length c.args.terms.now
    → c.index-rows.result.now ≡ table_at c.ask_at.new.graph.rows.items i
table g c l =
    let i = (hop_at c.args.hops.now c.loop-hop.hop-index).term in
    c.index-rows.ensures ∙ get_or_default c.ask_at.new.graph.rows.items i c.index-rows.result.now []
    (rw (rows_count c.in_ok-ask_at.ensures.still.claimed) l)

pub loop-hop-init : goal.loop-hop-init
loop-hop-init g c =
    let fq : FitsSigned w128 c.args.q = c.ranges.q in (
      simp to_z-of_z (still_begun c.requires.ready.claimed),
      inl (refl, refl),
      λ j l. absurd (omega (arith, l)),
    )

pub ask_at-requires-clause-ready : goal.ask_at-requires-clause-ready
ask_at-requires-clause-ready g c = still_ready c.loop-hop.invariant.0 c.requires.ready.small

pub ask_at-requires-clause-term : goal.ask_at-requires-clause-term
ask_at-requires-clause-term g c =
    let t = g.T.Term in
    let here = told_at (meanings t.places t.value_of c.args.terms.now) c.args.graph.now.rows.items
    c.requires.told.0 c.args.hops.now c.loop-hop.hop-index c.requires.told.1
    c.loop-hop-test.true in
    rw (counted c.requires.ready.claimed) at here.0.1.term_in

pub ask_at-requires-clause-place : goal.ask_at-requires-clause-place
ask_at-requires-clause-place g c =
    let t = g.T.Term in
    (told_at (meanings t.places t.value_of c.args.terms.now) c.args.graph.now.rows.items
    c.requires.told.0 c.args.hops.now c.loop-hop.hop-index c.requires.told.1
    c.loop-hop-test.true).0.1.u_in

pub index-rows-requires : goal.index-rows-requires
index-rows-requires g c =
    let l = inside g (goal.at.index-rows-requires g c).After-ask_at in
    let count = rows_count c.in_ok-ask_at.ensures.still.claimed in
    omega (arith, l, count, c.ask_at.new.graph.rows.ok.0)

pub row-row-requires : goal.row-row-requires
row-row-requires g c =
    let at = goal.at.row-row-requires g c in
    let i = (hop_at c.args.hops.now c.loop-hop.hop-index).term in
    let l = inside g at.After-ask_at in
    let (term, is) = there_is c.args.terms.now i l in
    rw (
      table g at.After-index-rows l,
      rows_long c.in_ok-ask_at.ensures.still.claimed i l term is,
      ← places_are c.requires.ready.claimed i l term is,
    ) (told g at.After-ask_at).0.1.u_in

pub contains-requires : goal.contains-requires
contains-requires g c =
    let at = (goal.at.contains-requires g c).After-ask_at in
    let hop = hop_at c.args.hops.now c.loop-hop.hop-index in
    let l = inside g at in
    let (term, is) = there_is c.args.terms.now hop.term l in
    let named = (told g at).0.1 in
    let places = places_are c.requires.ready.claimed hop.term l term is in
    let below = place_in c.requires.ready.claimed hop.term l term is hop.v
    (rw places at named.v_in) in
    let ends = rw places at named.ends in
    omega (arith, below, ends, c.requires.ready.claimed.bounded.few)

pub loop-hop-preserved : goal.loop-hop-preserved
loop-hop-preserved g c =
    let t = g.T.Term in
    let fq : FitsSigned w128 c.args.q = c.ranges.q in
    let at = goal.at.loop-hop-preserved g c in
    let k = c.loop-hop.hop-index in
    let hop = hop_at c.args.hops.now k in
    let l = inside g at.After-ask_at in
    let (term, is) = there_is c.args.terms.now hop.term l in
    let named = (told g at.After-ask_at).0 in
    let inv = simp to_z-of_z at c.loop-hop.invariant in
    let e = c.in_ok-ask_at.ensures in
    let still = simp to_z-of_z at e.still in
    let after = c.ask_at.new.graph in
    let bit = rw (c.row-row.ensures, table g at.After-index-rows l) at
    (c.contains.ensures.0 c.if-not-contains.false) in
    let M : ℕ → Type 0 = λ j. IsMovable (meanings t.places t.value_of c.args.terms.now) c.args.q
    c.args.graph.now.bases (hop_at c.args.hops.now j) in
    let here : M k = rw (still.bases, inv.0.bases) at
    (true_movable (meanings t.places t.value_of c.args.terms.now) c.args.q after.bases named.0
    hop (set_at (table_at after.rows.items hop.term) hop.u)
    (distinct_at c.requires.ready.claimed hop.term l term is) named.1
    ((still.claimed.claims hop.term l).exact hop.u named.1.u_in e.settled) bit) in
    let each : (j : ℕ) → j < k + 1
    → M j = λ j lj. ⊎_elim (λ less. inv.2 j less)
    (λ ge. let same : k ≡ j = omega (arith, ge, lj) in subst M same here) (cases_lt j k) in
    simp to_z-of_z (still_then inv.0 still, asked_then _ _ _ _ _ _ inv.1 e.asked, each)

pub returns-then-not-contains-clause-still : goal.returns-then-not-contains-clause-still
returns-then-not-contains-clause-still g c =
    let fq : FitsSigned w128 c.args.q = c.ranges.q in
    let inv = simp to_z-of_z at c.loop-hop.invariant in
    still_then inv.0 (simp to_z-of_z at c.in_ok-ask_at.ensures.still)

pub returns-then-not-contains-clause-refused : goal.returns-then-not-contains-clause-refused
returns-then-not-contains-clause-refused g c = λ _.
    let at = goal.at.returns-then-not-contains-clause-refused g c in
    let row = table g at.After-index-rows (inside g at.After-ask_at) in
    let asked = c.in_ok-ask_at.ensures.asked in
    asked_refused (hop_at c.args.hops.now c.loop-hop.hop-index) _ _ _ _ _ _ c.loop-hop.invariant.1
    asked (told g at.After-ask_at).1
    (λ one. ⊎_elim (λ (same, kept).
    absurd (both_ways c.contains.result c.if-not-contains.true
    (c.contains.ensures.1 (rw (c.row-row.ensures, row, same) one)))) (λ less. less) asked)

pub returns-then-not-contains-clause-proved : goal.returns-then-not-contains-clause-proved
returns-then-not-contains-clause-proved g c = λ yes. absurd (false≢true yes)

pub returns-clause-still : goal.returns-clause-still
returns-clause-still g c = let fq : FitsSigned w128 c.args.q = c.ranges.q in simp to_z-of_z at
    c.loop-hop.invariant.0

pub returns-clause-proved : goal.returns-clause-proved
returns-clause-proved g c =
    let fq : FitsSigned w128 c.args.q = c.ranges.q in
    let inv = simp to_z-of_z at c.loop-hop.invariant in
    let done : c.loop-hop.hop-index ≡ length
    c.args.hops.now = omega (arith, c.loop-hop.auto.hop-index-end, c.loop-hop-test.false) in
    λ _ j l. inv.2 j (omega (arith, l, done))

pub returns-clause-refused : goal.returns-clause-refused
returns-clause-refused g c = λ no. absurd (false≢true (sym no))
