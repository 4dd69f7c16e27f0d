use Rattle.std.proofs.Common.{◌*ℤ◌, refl, FitsSigned}
use Rattle.std.proofs.lemmas.Int.{to_z-of_z}
use mir.Syntax.{w128}
use Rattle.sfm_law.proofs.Fits.{rank_fits, rank_small}
use Rattle.sfm_matroid.proofs.ranked.ranked.Goals as goal

pub overflow_mul-result : goal.overflow_mul-result
overflow_mul-result c =
    let r = c.requires in
    let fw : FitsSigned w128 c.args.w = c.ranges.w in
    let fc : FitsSigned w128 c.args.count = c.ranges.count in
    simp to_z-of_z (rank_fits (c.args.w *ℤ c.args.count)
    (rank_small c.args.w c.args.count r.low r.given r.none r.few))

pub returns-clause-small : goal.returns-clause-small
returns-clause-small c =
    let r = c.requires in
    let fw : FitsSigned w128 c.args.w = c.ranges.w in
    let fc : FitsSigned w128 c.args.count = c.ranges.count in
    let small = rank_small c.args.w c.args.count r.low r.given r.none r.few in
    let f : FitsSigned w128 (c.args.w *ℤ c.args.count) = rank_fits (c.args.w *ℤ c.args.count)
    small in
    simp to_z-of_z small

pub returns-clause-value : goal.returns-clause-value
returns-clause-value c =
    let r = c.requires in
    let fw : FitsSigned w128 c.args.w = c.ranges.w in
    let fc : FitsSigned w128 c.args.count = c.ranges.count in
    let f : FitsSigned w128 (c.args.w *ℤ c.args.count) = rank_fits (c.args.w *ℤ c.args.count)
    (rank_small c.args.w c.args.count r.low r.given r.none r.few) in
    simp to_z-of_z refl
