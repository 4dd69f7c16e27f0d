use Rattle.std.proofs.Common.{FitsSigned}
use Rattle.std.proofs.lemmas.Int.{to_z-of_z}
use mir.Syntax.{w128}
use Rattle.sfm_laminar.proofs.laminar.Laminar.are_capped.Goals as goal

pub returns : goal.returns
returns c =
    let fq : FitsSigned w128 c.args.q = c.ranges.q in
    let fm : FitsSigned w128 c.place_most.result = record { sfits = c.place_most.type_inv } in
    let most = simp to_z-of_z at c.place_most.ensures.value in
    rw most at (simp to_z-of_z at c.are_within.ensures)
