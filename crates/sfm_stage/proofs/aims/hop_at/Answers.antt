use Rattle.std.proofs.Common.{◌≡◌, ◌<◌, [], length, sym, ap, ◌∙◌, arith}
use Rattle.std.proofs.lemmas.List.{get_or_default}
use Rattle.sfm_spec.specs.Families.{Meaning, meanings}
use Rattle.sfm_spec.specs.Walks.{term_at}
use Rattle.sfm_law.proofs.Lists.{length-meanings, meanings-at}
use Rattle.sfm_reach.specs.Bits.{bit_in, set_at}
use Rattle.sfm_reach.specs.Reach.{table_at}
use Rattle.sfm_stage.proofs.aims.hop_at.Goals as goal

pub bounds-terms-spot : goal.bounds-terms-spot
bounds-terms-spot g c =
    let count = length-meanings g.T.Term.places g.T.Term.value_of c.args.terms.now in
    let l = c.requires.spot.term_in in
    omega (arith, count, l)

pub offset_bounds-terms-spot : goal.offset_bounds-terms-spot
offset_bounds-terms-spot g c =
    let count = length-meanings g.T.Term.places g.T.Term.value_of c.args.terms.now in
    let l = c.requires.spot.term_in in
    omega (arith, count, l)

pub returns : goal.returns
returns g c =
    let t = g.T.Term in
    let spot = c.requires.spot in
    let count = length-meanings t.places t.value_of c.args.terms.now in
    let l : c.args.spot.term < length c.args.terms.now = omega (arith, count, spot.term_in) in
    let m = meanings-at t.places t.value_of c.args.terms.now c.args.spot.term
    c.index-terms-spot.result l c.index-terms-spot.is in
    let places : (term_at (meanings t.places t.value_of c.args.terms.now) c.args.spot.term).places
    ≡ c.elements.result.now = ap (λ (u : Meaning). u.places) m ∙ sym c.elements.ensures in
    let v = c.in-Some-local_of.ensures in
    let to = c.in-Some.ensures in
    let table : table_at c.args.rows.now
    c.args.spot.term ≡ c.index-rows-spot.result =
    get_or_default c.args.rows.now c.args.spot.term [] c.index-rows-spot.result c.requires.rows
    ∙ sym c.index-rows-spot.is in
    let told : bit_in (set_at (table_at c.args.rows.now c.args.spot.term) c.args.spot.local)
    c.in-Some.to ≡ 1 = rw (table, ← c.row-row.ensures) to.1 in
    record {
      named = record {
        term_in = spot.term_in;
        u_in = spot.local_in;
        v_in = rw places v.0;
        begins = spot.at;
        ends = rw places v.1;
      };
      told = told;
      onto = to.2;
    }
