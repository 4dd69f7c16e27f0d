use Rattle.std.proofs.Common.{◌≡◌, ◌<◌, inl, inr, ⊎_elim, [], List, ℤ, get_or, length, set, refl, ap, sym, subst, ◌∙◌, arith, FitsSigned, get_or-set_same, length-set}
use Rattle.std.specs.List.{All}
use Rattle.std.proofs.lemmas.Bool.{both_ways, cases_eq}
use Rattle.std.proofs.lemmas.Int.{to_z-of_z}
use Rattle.std.proofs.lemmas.List.Elements.{All-get_or}
use mir.Syntax.{w128}
use Rattle.sfm_spec.specs.Bounds.{IsEntry}
use Rattle.sfm_spec.specs.Terms.{times}
use Rattle.sfm_spec.specs.Walks.{base_at}
use Rattle.sfm_reach.specs.Based.{IsPlacedBase}
use Rattle.sfm_reach.specs.Bits.{blank_bits, set_at}
use Rattle.sfm_reach.specs.Reach.{IsRow, kept_fits, table_at}
use Rattle.sfm_exchange.proofs.Asked.{claims_fewer, claims_kept}
use Rattle.sfm_reach.proofs.Basing.{size_low}
use Rattle.sfm_exchange.proofs.ClaimedGraphs.{asked_after, base_count, based, claimed_shown, place_in, places_are, row_long, rows_after, rows_count, rows_shown}
use Rattle.sfm_exchange.proofs.Still.{still_begun}
use Rattle.sfm_exchange.proofs.claims.ask_at.Given as given
use Rattle.sfm_exchange.proofs.claims.ask_at.Goals as goal
use Rattle.sfm_exchange.proofs.claims.ask_at.Goals.{After-index-claims, After-index-terms-i, After-index_mut-claimed, After-index_mut-rows}

-- the place is one of the term
inside : (g : given.Over) (c : After-index-terms-i g)
    → c.args.u < length (g.T.Term.places c.index-terms-i.result)
inside g c = rw (places_are c.requires.ready.claimed c.args.i c.requires.term c.index-terms-i.result
    c.index-terms-i.is) at c.requires.place

-- and its ground place is below the bound
below : (g : given.Over) (c : After-index-terms-i g)
    → get_or (g.T.Term.places c.index-terms-i.result) c.args.u 0 < 256
below g c =
    let r = c.requires in
    let b = place_in r.ready.claimed c.args.i r.term c.index-terms-i.result c.index-terms-i.is
    c.args.u (inside g c) in
    omega (arith, b, r.ready.claimed.bounded.few)

-- the claimed places are those of the graph
claims_are : (g : given.Over) (c : After-index-claims g)
    → c.index-claims.result.now ≡ set_at c.args.graph.now.claimed.items c.args.i
claims_are g c = claimed_shown c.requires.ready.claimed c.args.i c.requires.term
    c.index-terms-i.result c.index-terms-i.is c.index-claims.result.now c.index-claims.ensures

claimed_are : (g : given.Over) (c : After-index_mut-claimed g)
    → c.index_mut-claimed.result.now ≡ set_at c.args.graph.now.claimed.items c.args.i
claimed_are g c = claimed_shown c.requires.ready.claimed c.args.i c.requires.term
    c.index-terms-i.result c.index-terms-i.is c.index_mut-claimed.result.now
    c.index_mut-claimed.ensures.value

-- so are the rows, one for each place of the term
shown : (g : given.Over) (c : After-index_mut-rows g)
    → let rows = c.index_mut-rows.result.now in (rows ≡ table_at c.args.graph.now.rows.items
    c.args.i) × (length rows ≡ length (g.T.Term.places c.index-terms-i.result))
shown g c = rows_shown c.requires.ready.claimed c.args.i c.requires.term c.index-terms-i.result
    c.index-terms-i.is c.index_mut-rows.result.now c.index_mut-rows.ensures.value

pub bounds-places-u : goal.bounds-places-u
bounds-places-u g c = rw c.elements-places.ensures
    (inside g (goal.at.bounds-places-u g c).After-index-terms-i)

pub offset_bounds-places-u : goal.offset_bounds-places-u
offset_bounds-places-u g c =
    let l : c.args.u < length c.elements-places.result.now = rw c.elements-places.ensures
    (inside g (goal.at.offset_bounds-places-u g c).After-index-terms-i) in
    omega (arith, l)

pub row-x-requires : goal.row-x-requires
row-x-requires g c = rw (base_count c.requires.ready.claimed) c.requires.term

pub returns-then-not-contains-clause-settled : goal.returns-then-not-contains-clause-settled
returns-then-not-contains-clause-settled g c = λ one.
    let places = places_are c.requires.ready.claimed c.args.i c.requires.term c.index-terms-i.result
    c.index-terms-i.is in
    let at = goal.at.returns-then-not-contains-clause-settled g c in
    both_ways c.contains.result c.if-not-contains.true
    (c.contains.ensures.1 (rw (
      claims_are g at.After-index-claims,
      c.elements-places.ensures,
      ← places,
    ) one))

pub contains-requires : goal.contains-requires
contains-requires g c = rw c.elements-places.ensures
    (below g (goal.at.contains-requires g c).After-index-terms-i)

pub remove-requires : goal.remove-requires
remove-requires g c = rw c.elements-places.ensures
    (below g (goal.at.remove-requires g c).After-index-terms-i)

pub only-changed-requires : goal.only-changed-requires
only-changed-requires g c = rw c.elements-places.ensures
    (below g (goal.at.only-changed-requires g c).After-index-terms-i)

pub row_kept-requires-clause-based : goal.row_kept-requires-clause-based
row_kept-requires-clause-based g c =
    let t = g.T.Term in
    let m = g.met.T.Term in
    let fq : FitsSigned w128 c.args.q = c.ranges.q in
    let r = c.requires in
    let i = c.args.i in
    let term = c.index-terms-i.result in
    let B : List ℤ → Type 0 = λ x. IsPlacedBase t.places t.value_of t.size_of term c.args.q x in
    let b = based r.ready.claimed i r.term term c.index-terms-i.is
    (size_low t.places t.value_of t.size_of m.submodular m.bounded)
    (All-get_or (λ x. All IsEntry x) c.args.graph.now.bases i []
    (rw (base_count r.ready.claimed) r.term) r.ready.small) in
    simp to_z-of_z (subst B (sym c.row-x.ensures) b)

pub row_kept-requires-clause-noted : goal.row_kept-requires-clause-noted
row_kept-requires-clause-noted g c =
    let t = g.T.Term in
    let fq : FitsSigned w128 c.args.q = c.ranges.q in
    let r = c.requires in
    let F : List ℤ → Type 0 = λ x. kept_fits t.fits c.index-terms-i.result
    c.index_mut-note.result.now c.args.q x in
    simp to_z-of_z (subst F (sym c.row-x.ensures)
    (r.ready.claimed.noted c.args.i r.term c.index-terms-i.result c.index-terms-i.is
    c.index_mut-note.result.now c.index_mut-note.ensures.value))

pub row_kept-requires-clause-from : goal.row_kept-requires-clause-from
row_kept-requires-clause-from g c =
    let entries = row_long c.requires.ready.claimed c.args.i c.requires.term c.index-terms-i.result
    c.index-terms-i.is in
    rw (c.row-x.ensures, entries)
    (inside g (goal.at.row_kept-requires-clause-from g c).After-index-terms-i)

pub row_kept-requires-clause-rows : goal.row_kept-requires-clause-rows
row_kept-requires-clause-rows g c =
    let r = c.requires in
    (shown g (goal.at.row_kept-requires-clause-rows g c).After-index_mut-rows).1
    ∙ (sym (row_long r.ready.claimed c.args.i r.term c.index-terms-i.result c.index-terms-i.is)
    ∙ ap length (sym c.row-x.ensures))

pub set-requires : goal.set-requires
set-requires g c =
    let at = goal.at.set-requires g c in
    rw (c.in_ok-row.ensures.same, (shown g at.After-index_mut-rows).1)
    (inside g at.After-index-terms-i)

pub renew-requires-clause-rows : goal.renew-requires-clause-rows
renew-requires-clause-rows g c =
    let r = c.requires in
    let rows = c.index_mut-rows.result.now in
    let long = (shown g (goal.at.renew-requires-clause-rows g c).After-index_mut-rows).1 in
    let put : c.set.new.self ≡ set rows c.args.u c.in_ok-row.row = rw c.in_ok-row.ensures.same at
    c.set.ensures in
    let count = ap length put ∙ (length-set rows c.args.u c.in_ok-row.row ∙ long) in
    rw (c.deref.ensures.value, c.deref-2.ensures.value)
    (rows_after r.ready.claimed c.args.i r.term c.index-terms-i.result c.index-terms-i.is
    c.set.new.self count)

pub renew-requires-clause-placed : goal.renew-requires-clause-placed
renew-requires-clause-placed g c = λ e one.
    let r = c.requires in
    let only = rw c.elements-places.ensures at c.only-changed.ensures in
    let here : e ≡ get_or (g.T.Term.places c.index-terms-i.result) c.args.u 0 = ⊎_elim
    (λ same. same) (λ ne. absurd (let z = only.others e ne in omega (arith, z, one)))
    (cases_eq e _) in
    rw (c.deref.ensures.value, here)
    (place_in r.ready.claimed c.args.i r.term c.index-terms-i.result c.index-terms-i.is c.args.u
    (inside g (goal.at.renew-requires-clause-placed g c).After-index-terms-i))

pub returns-clause-still : goal.returns-clause-still
returns-clause-still g c =
    let t = g.T.Term in
    let m = g.met.T.Term in
    let fq : FitsSigned w128 c.args.q = c.ranges.q in
    let r = c.requires in
    let graph = c.args.graph.now in
    let i = c.args.i in
    let term = c.index-terms-i.result in
    let at = goal.at.returns-clause-still g c in
    let put : c.set.new.self ≡ set (table_at graph.rows.items i) c.args.u
    c.in_ok-row.row = rw (c.in_ok-row.ensures.same, (shown g at.After-index_mut-rows).0) at
    c.set.ensures in
    let noted : kept_fits t.fits term c.row_kept.new.kept c.args.q
    (base_at graph.bases i) = simp to_z-of_z at
    (rw c.row-x.ensures at c.in_ok-row.ensures.noted) in
    let told : IsRow (t.places term) (times c.args.q (t.value_of term)) (base_at graph.bases i)
    c.args.u c.in_ok-row.row = simp to_z-of_z at
    (rw c.row-x.ensures at c.in_ok-row.ensures.row) in
    let small = All-get_or (λ x. All IsEntry x) graph.bases i []
    (rw (base_count r.ready.claimed) r.term) r.ready.small in
    let only = rw c.elements-places.ensures at c.only-changed.ensures in
    let rest = rw (c.elements-places.ensures, claimed_are g at.After-index_mut-claimed) at
    c.remove.ensures.others in
    record {
      claimed = asked_after r.ready.claimed i r.term term c.index-terms-i.is c.row_kept.new.kept
          c.args.u c.in_ok-row.row c.remove.new.self c.only-changed.result _
          (inside g at.After-index-terms-i) small
          (size_low t.places t.value_of t.size_of m.submodular m.bounded) noted told rest
          only.has (rw (c.deref.ensures.value, c.deref-2.ensures.value, put) at
          c.renew.ensures.renewed) c.renew.ensures.turned refl refl refl refl
          (ap (λ z. set graph.rows.items i z) put) refl;
      bases = refl;
    }

pub returns-clause-settled : goal.returns-clause-settled
returns-clause-settled g c = λ one.
    let r = c.requires in
    let places = places_are r.ready.claimed c.args.i r.term c.index-terms-i.result
    c.index-terms-i.is in
    let gone = rw c.elements-places.ensures at c.remove.ensures.out in
    let z = rw (
      places,
      get_or-set_same c.args.graph.now.claimed.items c.args.i c.remove.new.self
          blank_bits (rw r.ready.claimed.claim_count r.term),
    ) at one in
    omega (arith, gone, z)

pub returns-clause-kept : goal.returns-clause-kept
returns-clause-kept g c =
    let r = c.requires in
    let others = rw (claimed_are g (goal.at.returns-clause-kept g c).After-index_mut-claimed) at
    c.remove.ensures.others in
    claims_kept c.args.graph.now.claimed.items c.args.i _ c.remove.new.self
    (rw r.ready.claimed.claim_count r.term) c.remove.ensures.out others

pub returns-clause-asked : goal.returns-clause-asked
returns-clause-asked g c =
    let r = c.requires in
    let at = goal.at.returns-clause-asked g c in
    let one = rw (claims_are g at.After-index-claims) at
    (c.contains.ensures.0 c.if-not-contains.false) in
    let others = rw (claimed_are g at.After-index_mut-claimed) at c.remove.ensures.others in
    inr (claims_fewer c.args.graph.now.claimed.items c.args.i _ c.remove.new.self
    (rw r.ready.claimed.claim_count r.term)
    (rw c.elements-places.ensures (below g at.After-index-terms-i)) one c.remove.ensures.out
    others)

pub bounds-terms-i : goal.bounds-terms-i
bounds-terms-i g c = c.requires.term

pub offset_bounds-terms-i : goal.offset_bounds-terms-i
offset_bounds-terms-i g c = omega (arith, c.requires.term)

pub index-claims-requires : goal.index-claims-requires
index-claims-requires g c = omega (
  arith,
  c.requires.term,
  c.requires.ready.claimed.claim_count,
  c.args.graph.now.claimed.ok.0,
)

pub index_mut-claimed-requires : goal.index_mut-claimed-requires
index_mut-claimed-requires g c =
    omega (
      arith,
      c.requires.term,
      c.requires.ready.claimed.claim_count,
      c.args.graph.now.claimed.ok.0,
    )

pub index_mut-note-requires : goal.index_mut-note-requires
index_mut-note-requires g c = omega (
  arith,
  c.requires.term,
  c.requires.ready.claimed.note_count,
  c.args.graph.now.notes.ok.0,
)

pub index_mut-rows-requires : goal.index_mut-rows-requires
index_mut-rows-requires g c = let r = rows_count
    c.requires.ready.claimed in omega (arith, c.requires.term, r, c.args.graph.now.rows.ok.0)

pub renew-requires-clause-few : goal.renew-requires-clause-few
renew-requires-clause-few g c = rw c.deref.ensures.value c.requires.ready.claimed.bounded.few

pub renew-requires-clause-count : goal.renew-requires-clause-count
renew-requires-clause-count g c = rw c.deref.ensures.value c.requires.ready.claimed.are_unions.count

pub renew-requires-clause-turned : goal.renew-requires-clause-turned
renew-requires-clause-turned g c = c.requires.ready.claimed.are_turned

pub returns-then-not-contains-clause-still : goal.returns-then-not-contains-clause-still
returns-then-not-contains-clause-still g c = still_begun c.requires.ready.claimed

pub returns-then-not-contains-clause-spots : goal.returns-then-not-contains-clause-spots
returns-then-not-contains-clause-spots g c = refl

pub returns-then-not-contains-clause-kept : goal.returns-then-not-contains-clause-kept
returns-then-not-contains-clause-kept g c = λ j e out. out

pub returns-then-not-contains-clause-asked : goal.returns-then-not-contains-clause-asked
returns-then-not-contains-clause-asked g c = inl (refl, refl)

pub returns-clause-spots : goal.returns-clause-spots
returns-clause-spots g c = refl
