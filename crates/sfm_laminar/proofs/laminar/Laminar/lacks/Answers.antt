use Rattle.std.proofs.Common.{get_or, pos, arith, FitsSigned}
use Rattle.std.proofs.lemmas.Int.{ints, to_z-of_z}
use Rattle.std.proofs.lemmas.List.Elements.{All-get_or}
use mir.Syntax.{w128}
use Rattle.sfm_spec.specs.Bounds.{IsEntry}
use Rattle.sfm_law.proofs.Puts.{less_test}
use Rattle.sfm_law.proofs.Writes.{entry_fits}
use Rattle.sfm_laminar.proofs.laminar.Laminar.lacks.Goals as goal

pub returns : goal.returns
returns c =
    let a = get_or c.args.at.now.x.now c.args.u (pos 0) in
    let fq : FitsSigned w128 c.args.at.now.q = omega (arith, ints, c.requires.factor) in
    let fa : FitsSigned w128 a = entry_fits _
    (All-get_or IsEntry c.args.at.now.x.now c.args.u (pos 0) c.requires.from
    c.requires.small) in
    let fm : FitsSigned w128 c.place_most.result = record { sfits = c.place_most.type_inv } in
    let most = simp to_z-of_z at c.place_most.ensures.value in
    rw (← most) (simp to_z-of_z (less_test a c.place_most.result))
