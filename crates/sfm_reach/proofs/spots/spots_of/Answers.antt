use Rattle.std.proofs.Common.{◌≡◌, length, sym, ap, ◌∙◌, arith}
use Rattle.sfm_spec.specs.Sets.{IsPlaced}
use Rattle.sfm_spec.specs.Families.{Meaning, meanings}
use Rattle.sfm_spec.specs.Walks.{term_at}
use Rattle.sfm_law.proofs.Lists.{all-at, length-meanings, meanings-at}
use Rattle.sfm_reach.proofs.Spotting.{spots_none, spots_more, spots_all}
use Rattle.sfm_reach.proofs.spots.spots_of.Goals as goal

pub loop-i-init : goal.loop-i-init
loop-i-init g c =
    let t = g.T.Term in
    rw (c.in_ok-spots.ensures, c.deref.ensures.value, c.in_ok-counts.ensures)
    (spots_none (meanings t.places t.value_of c.args.terms.now) c.args.n)

pub add_spots-requires : goal.add_spots-requires
add_spots-requires g c =
    let t = g.T.Term in
    rw (c.elements.ensures, c.loop-i.invariant.count)
    (all-at (IsPlaced c.args.n) t.places c.args.terms.now c.loop-i.i c.index-terms-i.result
    c.loop-i-test.true c.index-terms-i.is c.requires)

pub loop-i-preserved : goal.loop-i-preserved
loop-i-preserved g c =
    let t = g.T.Term in
    let ts = meanings t.places t.value_of c.args.terms.now in
    let m = meanings-at t.places t.value_of c.args.terms.now c.loop-i.i c.index-terms-i.result
    c.loop-i-test.true c.index-terms-i.is in
    let count = length-meanings t.places t.value_of c.args.terms.now in
    let places : (term_at ts c.loop-i.i).places
    ≡ c.elements.result.now = ap (λ (u : Meaning). u.places) m ∙ sym c.elements.ensures in
    spots_more ts c.args.n c.loop-i.i c.loop-i.spots.items c.add_spots.new.spots.items
    (omega (arith, count, c.loop-i-test.true)) c.loop-i.invariant
    (rw places c.in_ok-add_spots.ensures)

pub returns : goal.returns
returns g c =
    let t = g.T.Term in
    let ts = meanings t.places t.value_of c.args.terms.now in
    let count = length-meanings t.places t.value_of c.args.terms.now in
    let done : c.loop-i.i ≡ length
    ts = omega (arith, count, c.loop-i.auto.i-end, c.loop-i-test.false) in
    spots_all ts c.args.n c.loop-i.spots.items (rw (← done) c.loop-i.invariant)
