use Rattle.std.proofs.Common.{refl, FitsSigned}
use Rattle.std.proofs.lemmas.Bool.{both_ways}
use Rattle.std.proofs.lemmas.Int.{to_z-of_z}
use mir.Syntax.{w128}
use Rattle.sfm_concave.proofs.UniformRooms.{uniform_tested}
use Rattle.sfm_concave.proofs.uniform.UniformPlain.is_base_of.Goals as goal

pub returns-then-are_capped : goal.returns-then-are_capped
returns-then-are_capped c =
    let s = c.args.self.now in
    let fq : FitsSigned w128 c.args.q = c.ranges.q in
    let tests = uniform_tested c.args.q s.w s.cap c.args.x.now c.requires.factor.low s.low in
    let capped = simp to_z-of_z at (c.if-are_capped.ensures.0 refl) in
    let whole = simp to_z-of_z at c.has_whole.ensures in
    ((λ t. tests.1 (capped, whole.0 t)), (λ b. whole.1 (tests.0 b).1))

pub returns-else-are_capped : goal.returns-else-are_capped
returns-else-are_capped c =
    let s = c.args.self.now in
    let fq : FitsSigned w128 c.args.q = c.ranges.q in
    let tests = uniform_tested c.args.q s.w s.cap c.args.x.now c.requires.factor.low s.low in
    let capped = simp to_z-of_z at c.are_capped.ensures in (
      (λ t. absurd (both_ways c.are_capped.result c.if-are_capped.false t)),
      (λ b. capped.1 (tests.0 b).0),
    )
