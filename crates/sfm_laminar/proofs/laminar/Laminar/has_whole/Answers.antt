use Rattle.std.proofs.Common.{◌*ℤ◌, FitsSigned}
use Rattle.std.proofs.lemmas.Int.{to_z-of_z}
use mir.Syntax.{w128}
use Rattle.sfm_law.proofs.Fits.{product_fits, rank_fits}
use Rattle.sfm_laminar.proofs.laminar.Laminar.has_whole.Goals as goal

pub product-requires-clause-factor : goal.product-requires-clause-factor
product-requires-clause-factor c = let fq : FitsSigned w128 c.args.q = c.ranges.q in simp to_z-of_z
    c.requires.factor

pub product-requires-clause-given : goal.product-requires-clause-given
product-requires-clause-given c = rw (to_z-of_z w128 _ (rank_fits _ c.most.ensures.small))
    c.most.ensures.small

pub returns : goal.returns
returns c =
    let small = c.most.ensures.small in
    let fq : FitsSigned w128 c.args.q = c.ranges.q in
    let fm : FitsSigned w128 c.most.result = rank_fits _ small in
    let fp : FitsSigned w128 (c.args.q *ℤ c.most.result) = product_fits _ _ c.requires.factor
    small in
    let p = simp to_z-of_z at c.product.ensures in
    rw c.most.ensures.value at (simp to_z-of_z at (rw p at c.has_sum.ensures))
