use Rattle.std.proofs.Common.{◌≢◌, ◌<◌, false, length, get_or, refl, arith}
use Rattle.std.proofs.lemmas.Bool.{both_ways}
use Rattle.sfm_reach.specs.Bits.{bit_in}
use Rattle.sfm_reach.proofs.Uniting.{widened_more, widened_past}
use Rattle.sfm_reach.proofs.unions.widen.Goals.{then-contains, else-contains}
use Rattle.sfm_reach.proofs.unions.widen.Goals as goal

pub loop-u-preserved : goal.loop-u-preserved
loop-u-preserved c =
    let r = c.requires in
    let inv = c.loop-u.invariant in
    let places = c.args.places.now in
    let u = c.loop-u.u in
    let lu : u < length places = c.loop-u-test.true in
    let e = get_or places u 0 in
    let unions = c.loop-u.unions.items in
    let here : e < length unions = let l = r.inside u lu in omega (arith, l, inv.0.count) in
    elim c.if-contains.branch [
      | then-contains w ↦
          let one = w.if-contains.ensures.0 refl in
          let (row, is, wide) = w.put_in.ensures.put in (
            rw (w.unions-is, is) (widened_more places c.args.rows.now c.args.grown.now u
                c.args.unions.now.items unions row r.placed.distinct lu inv.0 one here
                (rw w.as_slice.ensures at wide)),
            rw (w.unions-is, w.back-is) w.put_in.ensures.turned,
          )
      | else-contains w ↦
          let none : bit_in c.args.grown.now e ≢ 1 = λ one.
          both_ways false refl (w.if-contains.ensures.1 one) in (
            rw w.unions-is (widened_past places c.args.rows.now c.args.grown.now u
                c.args.unions.now.items unions inv.0 none),
            rw (w.unions-is, w.back-is) inv.1,
          )
    ]

pub returns-then-is_empty-clause-widened : goal.returns-then-is_empty-clause-widened
returns-then-is_empty-clause-widened c = record {
  count = refl;
  widened = λ u l one. absurd (c.is_empty.ensures.empty c.if-is_empty.true
      (get_or c.args.places.now u 0) one);
  others = λ e none. refl;
}
