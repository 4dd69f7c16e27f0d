use Rattle.std.proofs.Common.{get_or, pos, refl, rules, FitsSigned}
use Rattle.std.proofs.lemmas.Int.{to_z-of_z}
use mir.Syntax.{w128}
use Rattle.sfm_exchange.proofs.Signing.{signs_moved}
use Rattle.sfm_exchange.proofs.signs.move_signs.Goals as goal

pub returns : goal.returns
returns c = λ before h moved.
    let fu : FitsSigned w128 (get_or c.args.z.now c.args.first (pos 0)) = search rules in
    let fv : FitsSigned w128 (get_or c.args.z.now c.args.last (pos 0)) = search rules in
    let first = simp to_z-of_z at c.settle.ensures.here in
    let last = simp to_z-of_z at c.settle-2.ensures.here in
    signs_moved before c.args.z.now c.args.first c.args.last c.args.signs.now _ h moved refl first
    c.settle.ensures.others last c.settle-2.ensures.others
