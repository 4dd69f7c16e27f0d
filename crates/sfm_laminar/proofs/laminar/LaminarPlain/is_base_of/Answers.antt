use Rattle.std.proofs.Common.{FitsSigned}
use Rattle.std.proofs.lemmas.Int.{to_z-of_z}
use mir.Syntax.{w128}
use Rattle.sfm_laminar.proofs.Bases.{laminar_tested, refused}
use Rattle.sfm_laminar.proofs.laminar.LaminarPlain.is_base_of.Goals as goal

pub returns-then-not-are_capped : goal.returns-then-not-are_capped
returns-then-not-are_capped c =
    let s = c.args.self.now in
    let fq : FitsSigned w128 c.args.q = c.ranges.q in
    refused _ (simp to_z-of_z at c.are_capped.ensures) c.if-not-are_capped.true
    (λ b. ((laminar_tested _ _ _ _ c.requires.factor.low s.low s.grouped _ c.requires.entries).0
    b).0)

pub returns-then-not-has_whole : goal.returns-then-not-has_whole
returns-then-not-has_whole c =
    let s = c.args.self.now in
    let fq : FitsSigned w128 c.args.q = c.ranges.q in
    refused _ (simp to_z-of_z at c.has_whole.ensures) c.if-not-has_whole.true
    (λ b. ((laminar_tested _ _ _ _ c.requires.factor.low s.low s.grouped _ c.requires.entries).0
    b).1)

pub returns : goal.returns
returns c =
    let s = c.args.self.now in
    let fq : FitsSigned w128 c.args.q = c.ranges.q in
    let tests = laminar_tested _ _ s.w s.groups c.requires.factor.low s.low s.grouped c.args.x.now
    c.requires.entries in
    let capped = (simp to_z-of_z at c.are_capped.ensures).0 c.if-not-are_capped.false in
    let whole = (simp to_z-of_z at c.has_whole.ensures).0 c.if-not-has_whole.false in
    let bounded = simp to_z-of_z at c.are_bounded.ensures in
    ((λ t. tests.1 (capped, whole, bounded.0 t)), (λ b. bounded.1 (tests.0 b).2))
