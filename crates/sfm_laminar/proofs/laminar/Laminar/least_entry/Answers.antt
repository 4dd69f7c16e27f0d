use Rattle.std.proofs.Common.{arith, FitsSigned}
use Rattle.std.proofs.lemmas.Int.{ints, to_z-of_z}
use mir.Syntax.{w128}
use Rattle.sfm_laminar.proofs.Leasts.{least_first}
use Rattle.sfm_laminar.proofs.laminar.Laminar.least_entry.Goals as goal

pub returns : goal.returns
returns c =
    let fq : FitsSigned w128 c.args.at.now.q = omega (arith, ints, c.requires.factor) in
    let fm : FitsSigned w128 c.place_most.result = record { sfits = c.place_most.type_inv } in
    let fl : FitsSigned w128 c.least_left.result = record { sfits = c.least_left.type_inv } in
    let most = simp to_z-of_z at c.place_most.ensures.value in
    let is = rw most at (simp to_z-of_z at c.least_left.ensures) in
    simp to_z-of_z (least_first _ _ _ _ _ _ _ is)
