use Rattle.std.proofs.Common.{◌≡◌, arith, FitsSigned}
use Rattle.std.proofs.lemmas.Bool.Decides.{nat_tests}
use Rattle.std.proofs.lemmas.Int.{to_z-of_z}
use mir.Syntax.{w128}
use Rattle.sfm_level.proofs.settle.prove_at.Goals as goal

pub returns-clause-still : goal.returns-clause-still
returns-clause-still g c =
    let ft : FitsSigned w128 c.args.t = c.ranges.t in
    let still = simp to_z-of_z at c.in_ok-settle.ensures.still in
    λ none.
    let zero : c.settle.new.steps ≡ 0 = grind (arith, nat_tests, none, c.count.ensures) in
    still zero
