use Rattle.std.proofs.Common.{◌≡◌, ◌-◌, ◌<◌, length, map, get_or, refl, sym, ap, ◌∙◌, arith, FitsSigned}
use Rattle.std.proofs.lemmas.Int.{ints, to_z-of_z}
use Rattle.std.proofs.lemmas.List.{length-map, get_or-map}
use mir.Syntax.{w128}
use Rattle.sfm_cert.specs.Solved.{answer_of, break_of}
use Rattle.sfm_check.specs.Truth.{section_at, section_of as section_from}
use Rattle.sfm_check.specs.Findings.{IsSection}
use Rattle.sfm_check.proofs.Forming.{section_break}
use Rattle.sfm_check.proofs.sections.section_of.Goals as goal

pub returns : goal.returns
returns c =
    let found = c.index-found.result.now in
    let items = c.args.solved.now.breaks.items in
    let k = c.args.s - 1 in
    let low = found.slope.entry in
    let factor = found.slope.factor in
    let fn : FitsSigned w128 found.slope.num = omega (arith, ints, low) in
    let fd : FitsSigned w128 found.slope.den = omega (arith, ints, factor) in
    let ne = c.if-s-eq0.false in
    let lk : c.args.s - 1 < length
    items = omega (
      arith,
      c.requires,
      ne,
      length-map (map break_of items) section_from,
      length-map items break_of,
    ) in
    let e : break_of found ≡ get_or (map break_of items) (c.args.s - 1)
    (break_of found) = ap break_of c.index-found.ensures
    ∙ sym (get_or-map break_of items (c.args.s - 1) found (break_of found) lk) in
    let is : section_at (answer_of c.args.solved.now) c.args.s ≡ section_from
    (break_of found) = section_break (answer_of c.args.solved.now) c.args.s (break_of found) ne
    c.requires e in
    let goal' : IsSection (section_at (answer_of c.args.solved.now) c.args.s) found.slope.num
    found.slope.den found.bases =
    rw is (record { num_is = refl; den_is = refl; rows_are = refl }) in
    simp to_z-of_z goal'
