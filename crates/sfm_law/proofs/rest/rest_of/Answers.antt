use Rattle.std.proofs.Common.{◌≡◌, ◌*◌, ◌^◌, length, take, drop, ◌++◌, sym, ap, ◌∙◌}
use Rattle.std.specs.List.{All}
use Rattle.std.proofs.lemmas.List.{take_at}
use Rattle.sfm_spec.specs.Sets.{IsPlaced}
use Rattle.sfm_spec.specs.Bounds.{IsAtMost}
use Rattle.sfm_spec.specs.Walks.{base_at}
use Rattle.sfm_law.proofs.Lists.{all-at, meanings-at}
use Rattle.sfm_law.proofs.Rests.{places_few, places_front, rest-more, rest-none, rest-small}
use Rattle.sfm_law.proofs.rest.rest_of.Goals as goal

pub loop-i-init : goal.loop-i-init
loop-i-init g c = rw c.in_ok-z.ensures (rest-none c.args.shift.now c.args.bases.now)

pub add_row-requires-clause-placed : goal.add_row-requires-clause-placed
add_row-requires-clause-placed g c =
    let t = g.T.Term in
    let n : length c.deref_mut.result.now ≡ length c.args.shift.now = ap length
    c.deref_mut.ensures.value ∙ c.loop-i.invariant.places in
    rw (n, c.elements.ensures) (all-at (IsPlaced (length c.args.shift.now)) t.places
    c.args.terms.now c.loop-i.i c.index-terms-i.result c.loop-i-test.true c.index-terms-i.is
    c.requires.placed)

pub add_row-requires-clause-few : goal.add_row-requires-clause-few
add_row-requires-clause-few g c =
    let t = g.T.Term in
    rw c.elements.ensures (places_few t.places c.args.terms.now c.loop-i.i c.index-terms-i.result
    c.loop-i-test.true c.index-terms-i.is c.requires.few)

pub add_row-requires-clause-entries : goal.add_row-requires-clause-entries
add_row-requires-clause-entries g c =
    let t = g.T.Term in
    let m = meanings-at t.places t.value_of c.args.terms.now c.loop-i.i c.index-terms-i.result
    c.loop-i-test.true c.index-terms-i.is in
    let e = c.requires.entries c.loop-i.i c.loop-i-test.true in
    let r : length c.row.result.now ≡ length (base_at c.args.bases.now c.loop-i.i) = ap length
    c.row.ensures in
    let k : length c.elements.result.now ≡ length (t.places c.index-terms-i.result) = ap length
    c.elements.ensures in
    r ∙ (e ∙ (ap (λ u. length u.places) m ∙ sym k))

pub add_row-requires-clause-room : goal.add_row-requires-clause-room
add_row-requires-clause-room g c =
    let t = g.T.Term in
    let few = places_front t.places c.args.terms.now c.loop-i.i c.requires.few in
    let h : All (IsAtMost (2 * 10 ^ 36)) c.loop-i.z.items = rest-small t.places t.value_of
    (take c.loop-i.i c.args.terms.now) c.args.shift.now c.args.bases.now c.loop-i.z.items
    c.loop-i.invariant c.requires.small few c.requires.shifts in
    rw c.deref_mut.ensures.value h

pub loop-i-preserved : goal.loop-i-preserved
loop-i-preserved g c =
    let t = g.T.Term in
    let z = c.loop-i.z.items in
    let z' = c.add_row.new.z in
    let lent = c.deref_mut.ensures.value in
    let same : length z' ≡ length z = c.add_row.auto.z ∙ ap length lent in
    let whole : take c.loop-i.z.len (z' ++ drop (length z') z) ≡ z' = take_at z'
    (drop (length z') z) c.loop-i.z.len (same ∙ sym c.loop-i.z.ok.0) in
    let places : c.elements.result.now ≡ t.places c.index-terms-i.result = c.elements.ensures in
    let row : c.row.result.now ≡ base_at c.args.bases.now c.loop-i.i = c.row.ensures in
    let added = rw (lent, places, row) at c.add_row.ensures in
    rw whole (rest-more t.places t.value_of c.args.terms.now c.loop-i.i c.index-terms-i.result
    c.args.shift.now c.args.bases.now z z' c.loop-i-test.true c.index-terms-i.is
    c.loop-i.invariant same added)
