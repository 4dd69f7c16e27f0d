use Rattle.std.proofs.Common.{◌≡◌, ◌<◌, length, sym, ap, ◌∙◌, arith}
use Rattle.sfm_spec.specs.Families.{Meaning, meanings}
use Rattle.sfm_spec.specs.Walks.{term_at}
use Rattle.sfm_reach.proofs.Options.{match_some, some_if_not}
use Rattle.sfm_law.proofs.Lists.{length-meanings, meanings-at}
use Rattle.sfm_reach.proofs.Spotting.{spot_found, spots_read}
use Rattle.sfm_exchange.proofs.Linking.{least_into}
use Rattle.sfm_reach.specs.Spots.{spots_at}
use Rattle.sfm_reach.specs.Spots.{IsSpot}
use Rattle.sfm_exchange.proofs.path.least_step.Given as given
use Rattle.sfm_exchange.proofs.path.least_step.Goals as goal
use Rattle.sfm_exchange.proofs.path.least_step.Goals.{After-elements, After-unwrap-spot}

-- the spot is one of the place
found : (g : given.Over) (c : After-unwrap-spot g)
    → let t = g.T.Term in IsSpot (meanings t.places t.value_of c.args.terms.now) c.args.at
    c.unwrap-spot.result
found g c =
    let t = g.T.Term in
    let h = match_some c.first_spot.result c.unwrap-spot.result _ _ c.first_spot.ensures
    c.unwrap-spot.ensures in
    spot_found (meanings t.places t.value_of c.args.terms.now) (length c.args.unions.now)
    c.args.spots.now c.args.at c.index-spots-at.result c.as_slice.result.now
    c.unwrap-spot.result c.requires.spots c.requires.at c.index-spots-at.is c.as_slice.ensures
    h.0 h.1 h.2

-- its term is one of the terms
inside : (g : given.Over) (c : After-unwrap-spot g)
    → c.unwrap-spot.result.term < length c.args.terms.now
inside g c =
    let count = length-meanings g.T.Term.places g.T.Term.value_of c.args.terms.now in
    let l = (found g c).term_in in
    omega (arith, count, l)

-- which has these places
places_are : (g : given.Over) (c : After-elements g)
    → c.unwrap-spot.result.term < length c.args.terms.now
    → let t = g.T.Term in (term_at (meanings t.places t.value_of c.args.terms.now)
    c.unwrap-spot.result.term).places ≡ c.elements.result.now
places_are g c l =
    let m = meanings-at g.T.Term.places g.T.Term.value_of c.args.terms.now c.unwrap-spot.result.term
    c.index-terms-spot.result l c.index-terms-spot.is in
    ap (λ (u : Meaning). u.places) m ∙ sym c.elements.ensures

pub bounds-terms-spot : goal.bounds-terms-spot
bounds-terms-spot g c = inside g (goal.at.bounds-terms-spot g c).After-unwrap-spot

pub offset_bounds-terms-spot : goal.offset_bounds-terms-spot
offset_bounds-terms-spot g c = let l = bounds-terms-spot g c in omega (arith, l)

pub unwrap-v-requires : goal.unwrap-v-requires
unwrap-v-requires g c =
    let at = goal.at.unwrap-v-requires g c in
    let l = inside g at.After-unwrap-spot in
    let h = match_some c.first_spot.result c.unwrap-spot.result _ _ c.first_spot.ensures
    c.unwrap-spot.ensures in
    let places = places_are g at.After-elements l in
    let (v, lv, here) = (c.requires.placed c.unwrap-spot.result.term l c.unwrap-spot.result.local
    c.unwrap-to.result (found g at.After-unwrap-spot).local_in h.3).1 in
    some_if_not c.local_of.result _ _ c.local_of.ensures
    (λ none. none v (rw places at lv) (rw places at here))

pub returns-clause-named : goal.returns-clause-named
returns-clause-named g c =
    let at = goal.at.returns-clause-named g c in
    let spot = found g at.After-unwrap-spot in
    let places = places_are g at.After-elements (inside g at.After-unwrap-spot) in
    let v = match_some c.local_of.result c.unwrap-v.result _ _ c.local_of.ensures
    c.unwrap-v.ensures in
    record {
      term_in = spot.term_in;
      u_in = spot.local_in;
      v_in = rw places v.0;
      begins = spot.at;
      ends = rw places v.1;
    }

pub returns-clause-least : goal.returns-clause-least
returns-clause-least g c =
    let t = g.T.Term in
    let ts = meanings t.places t.value_of c.args.terms.now in
    let common = match_some c.first_common.result c.unwrap-to.result _ _ c.first_common.ensures
    c.unwrap-to.ensures in
    let h = match_some c.first_spot.result c.unwrap-spot.result _ _ c.first_spot.ensures
    c.unwrap-spot.ensures in
    let spots = c.args.spots.now in
    let inside : c.args.at < length spots = omega (arith, c.requires.at, c.requires.spots.count) in
    let look : spots_at spots c.args.at ≡ c.as_slice.result.now = spots_read spots c.args.at
    c.index-spots-at.result inside c.index-spots-at.is ∙ sym c.as_slice.ensures in
    least_into ts (length c.args.unions.now) spots c.args.rows.now c.args.unions.now
    c.requires.spots c.requires.unions c.args.at c.requires.at c.args.level.now
    c.unwrap-to.result
    common.3 c.as_slice.result.now look h.0 h.1 h.4 c.unwrap-spot.result.term (ap (λ s. s.term) h.2)
