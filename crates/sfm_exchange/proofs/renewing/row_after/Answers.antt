use Rattle.std.proofs.Common.{◌≡◌, ◌<◌, length, get_or, refl, arith}
use Rattle.std.proofs.lemmas.Int.{ints}
use Rattle.sfm_spec.specs.Terms.{times}
use Rattle.sfm_spec.proofs.Scaled.{family-times, submodular-times}
use Rattle.sfm_reach.specs.Bits.{bit_in}
use Rattle.sfm_exchange.specs.Renewed.{IsJoined}
use Rattle.sfm_exchange.proofs.RowsAfter.{row_shared}
use Rattle.sfm_exchange.proofs.renewing.row_after.Goals as goal

pub returns-then-contains-clause-row : goal.returns-then-contains-clause-row
returns-then-contains-clause-row g c =
    let t = g.T.Term in
    let at = c.args.at.now in
    let places = t.places at.term.now in
    let f = times at.base.q (t.value_of at.term.now) in
    let b = c.requires.based in
    let raised = c.args.raised.now in
    let r = c.requires.raised in
    let u = c.args.u in
    let lu : u < length places = rw (← b.based.entries) c.requires.from in
    let family = family-times _ at.base.q _ (g.met.T.Term.family at.term.now) in
    let law = submodular-times _ at.base.q _ (omega (arith, ints, b.based.factor.low))
    (g.met.T.Term.submodular at.term.now) in
    let bit : bit_in raised.row (get_or places u 0) ≡ 1 = rw c.elements-places.ensures at
    (c.if-contains.ensures.0 refl) in
    let is : IsJoined raised.row raised.row (get_or places raised.local 0) (get_or places u 0)
    c.joined.result = rw (r.place_is, ← c.elements-places.ensures) c.joined.ensures in
    row_shared places b.placed.distinct family law at.base.x.now b.based.entries b.based.base
    raised.local u raised.row c.joined.result r.within lu r.row_is c.requires.leads bit is
