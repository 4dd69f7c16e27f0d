use Rattle.std.proofs.Common.{◌≡◌, ◌≢◌, ◌<◌, false, get_or, length, refl, ap, arith}
use Rattle.std.proofs.lemmas.Bool.{both_ways}
use Rattle.sfm_spec.specs.Terms.{times}
use Rattle.sfm_reach.specs.Bits.{bit_in}
use Rattle.sfm_exchange.proofs.AtOnce.{asked_more, asked_past, asked_same}
use Rattle.sfm_exchange.proofs.renewing.ask_rows.Goals.{then-contains+in_ok-row+then-put_row, then-contains+in_ok-row+else-put_row, else-contains}
use Rattle.sfm_exchange.proofs.renewing.ask_rows.Goals as goal

pub row_after-requires-clause-leads : goal.row_after-requires-clause-leads
row_after-requires-clause-leads g c =
    let shown = c.elements-places.ensures in
    let one = rw shown at (c.if-contains.ensures.0 refl) in
    c.requires.leads c.loop-u.u (omega (
      arith,
      c.requires.based.based.entries,
      ap length shown,
      c.loop-u-test.true,
    )) one

pub loop-u-preserved : goal.loop-u-preserved
loop-u-preserved g c =
    let t = g.T.Term in
    let shown = c.elements-places.ensures in
    let at = c.args.at.now in
    let places = t.places at.term.now in
    let f = times at.base.q (t.value_of at.term.now) in
    let inv = c.loop-u.invariant in
    let l : c.loop-u.u < length c.loop-u.rows = omega (
      arith,
      inv.0.count,
      ap length c.lend_image.ensures.same,
      c.requires.rows,
      c.requires.based.based.entries,
      ap length shown,
      c.loop-u-test.true,
    ) in
    elim c.if-contains.branch [
      | then-contains+in_ok-row+then-put_row w ↦
          let one = rw shown at (w.if-contains.ensures.0 refl) in
          let put = rw (w.if-put_row.true) at w.put_row.ensures in
          let told = rw shown at w.insert.ensures in (
            rw (w.rows-is, w.anew-is, put)
                (asked_more places f at.base.x.now c.args.changed.now c.loop-u.anew _ c.loop-u.u
                c.lend_image.new.self c.loop-u.rows w.in_ok-row.row inv.0 l one
                w.in_ok-row.ensures.row told.put told.others),
            rw w.note-is w.in_ok-row.ensures.noted,
            rw w.image-is w.in_ok-row.ensures.image,
          )
      | then-contains+in_ok-row+else-put_row w ↦
          let (rows, same) = rw (w.if-put_row.false) at w.put_row.ensures in (
            rw (w.rows-is, w.anew-is, rows)
                (asked_same places f at.base.x.now c.args.changed.now c.loop-u.anew c.loop-u.u
                c.lend_image.new.self c.loop-u.rows w.in_ok-row.row inv.0 w.in_ok-row.ensures.row
                same),
            rw w.note-is w.in_ok-row.ensures.noted,
            rw w.image-is w.in_ok-row.ensures.image,
          )
      | else-contains w ↦
          let none : bit_in c.args.changed.now (get_or places c.loop-u.u 0) ≢ 1 = λ one.
          both_ways false refl (w.if-contains.ensures.1 (rw shown one)) in (
            rw (w.rows-is, w.anew-is) (asked_past places f at.base.x.now c.args.changed.now
                c.loop-u.anew c.loop-u.u c.lend_image.new.self c.loop-u.rows inv.0 none),
            rw w.note-is inv.1,
            rw w.image-is inv.2,
          )
    ]

pub returns-clause-asked : goal.returns-clause-asked
returns-clause-asked g c =
    let t = g.T.Term in
    let at = c.args.at.now in
    let places = t.places at.term.now in
    let shown = c.elements-places.ensures in
    let end = c.loop-u.auto.u-end in
    let all : c.loop-u.u ≡ length
    places = omega (arith, c.loop-u-test.false, end, ap length shown) in
    rw (c.keep_image.ensures, ← all, ← c.lend_image.ensures.same) c.loop-u.invariant.0

pub lend_image-requires : goal.lend_image-requires
lend_image-requires g c = omega (
  arith,
  c.requires.rows,
  c.requires.based.based.entries,
  ap length c.elements-places.ensures,
)

pub loop-u-init : goal.loop-u-init
loop-u-init g c = (
  record {
    count = refl;
    asked = λ u l one. absurd (omega (arith, l));
    inside = λ e one. absurd (let z = c.no_bits-anew.ensures e in omega (arith, z, one));
    others = λ u l none. refl;
  },
  c.requires.noted,
  rw c.elements-places.ensures at c.in_ok-image.ensures.image,
)

pub row_after-requires-clause-from : goal.row_after-requires-clause-from
row_after-requires-clause-from g c =
    omega (
      arith,
      c.requires.based.based.entries,
      ap length c.elements-places.ensures,
      c.loop-u-test.true,
    )

pub put_row-requires : goal.put_row-requires
put_row-requires g c = omega (
  arith,
  c.loop-u.invariant.0.count,
  ap length c.lend_image.ensures.same,
  c.requires.rows,
  c.requires.based.based.entries,
  ap length c.elements-places.ensures,
  c.loop-u-test.true,
)
