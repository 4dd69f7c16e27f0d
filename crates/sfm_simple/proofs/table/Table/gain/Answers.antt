use Rattle.std.proofs.Common.{◌≤◌, ◌+◌, ◌-◌, ◌*ℤ◌, ◌∙◌, pos, length, get_or, sym, ap, arith, FitsSigned}
use Rattle.std.proofs.Math.Pow.{pow_mono}
use Rattle.std.proofs.lemmas.Int.{to_z-of_z}
use Rattle.std.proofs.lemmas.Nat.{pow_pos}
use mir.Syntax.{w128}
use Rattle.sfm_spec.proofs.Scaled.{times-sub}
use Rattle.sfm_law.proofs.Fits.{at_most_more, difference_fits}
use Rattle.sfm_simple.proofs.table.Table.gain.Goals as goal

pub scaled-requires-clause-number : goal.scaled-requires-clause-number
scaled-requires-clause-number c =
    let more : c.args.j + 1 ≤ length c.args.self.now.places = omega (arith, c.requires.place) in
    omega (arith, pow_mono more, pow_pos (c.args.j + 1), c.unit.ensures, c.args.self.now.counted)

pub scaled-requires-2-clause-number : goal.scaled-requires-2-clause-number
scaled-requires-2-clause-number c =
    let more : c.args.j ≤ length c.args.self.now.places = omega (arith, c.requires.place) in
    omega (arith, pow_mono more, pow_pos c.args.j, c.unit-2.ensures, c.args.self.now.counted)

pub overflow_sub-result : goal.overflow_sub-result
overflow_sub-result c =
    let fa : FitsSigned w128 c.scaled.result = record { sfits = c.scaled.type_inv } in
    let fb : FitsSigned w128 c.scaled-2.result = record { sfits = c.scaled-2.type_inv } in
    simp to_z-of_z (difference_fits _ _ c.scaled.ensures.1 (at_most_more _ c.scaled-2.ensures.1))

pub returns : goal.returns
returns c =
    let q = c.args.q in
    let values = c.args.self.now.values in
    let fq : FitsSigned w128 q = c.ranges.q in
    let fa : FitsSigned w128 c.scaled.result = record { sfits = c.scaled.type_inv } in
    let fb : FitsSigned w128 c.scaled-2.result = record { sfits = c.scaled-2.type_inv } in
    let fd = difference_fits _ _ c.scaled.ensures.1 (at_most_more _ c.scaled-2.ensures.1) in
    let after = (simp to_z-of_z at c.scaled.ensures.0)
    ∙ ap (λ n. q *ℤ get_or values (n - 1) (pos 0)) c.unit.ensures in
    let before = (simp to_z-of_z at c.scaled-2.ensures.0)
    ∙ ap (λ n. q *ℤ get_or values (n - 1) (pos 0)) c.unit-2.ensures in
    simp to_z-of_z (rw (after, before) (sym (times-sub q _ _)))
