use Rattle.std.proofs.Common.{◌*ℤ◌, refl, FitsSigned}
use Rattle.std.proofs.lemmas.Int.{to_z-of_z}
use mir.Syntax.{w128}
use Rattle.sfm_law.proofs.Fits.{given_fits, rank_small, rank_fits}
use Rattle.sfm_laminar.proofs.laminar.Laminar.ranked.Goals as goal

pub overflow_mul-result : goal.overflow_mul-result
overflow_mul-result c =
    let s = c.args.self.now in
    let fw : FitsSigned w128 s.w = given_fits _ s.given in
    let fc : FitsSigned w128 c.args.count = c.ranges.count in
    simp to_z-of_z
    (rank_fits _ (rank_small s.w c.args.count s.low s.given c.requires.low c.requires.high))

pub returns-clause-value : goal.returns-clause-value
returns-clause-value c =
    let s = c.args.self.now in
    let fw : FitsSigned w128 s.w = given_fits _ s.given in
    let fc : FitsSigned w128 c.args.count = c.ranges.count in
    let fp : FitsSigned w128 (s.w *ℤ c.args.count) = rank_fits _
    (rank_small s.w c.args.count s.low s.given c.requires.low c.requires.high) in
    simp to_z-of_z refl

pub returns-clause-small : goal.returns-clause-small
returns-clause-small c =
    let s = c.args.self.now in
    let small = rank_small s.w c.args.count s.low s.given c.requires.low c.requires.high in
    let fw : FitsSigned w128 s.w = given_fits _ s.given in
    let fc : FitsSigned w128 c.args.count = c.ranges.count in
    let fp : FitsSigned w128 (s.w *ℤ c.args.count) = rank_fits _ small in
    simp to_z-of_z small
