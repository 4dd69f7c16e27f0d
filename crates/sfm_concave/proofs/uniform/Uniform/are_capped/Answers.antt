use Rattle.std.proofs.Common.{FitsSigned}
use Rattle.std.proofs.lemmas.Int.{to_z-of_z}
use mir.Syntax.{w128}
use Rattle.sfm_concave.proofs.uniform.Uniform.are_capped.Goals as goal

pub returns : goal.returns
returns c =
    let fq : FitsSigned w128 c.args.q = c.ranges.q in
    let fm : FitsSigned w128 c.most.result = record { sfits = c.most.type_inv } in
    let most = simp to_z-of_z at c.most.ensures.value in
    rw most at (simp to_z-of_z at c.are_within.ensures)
