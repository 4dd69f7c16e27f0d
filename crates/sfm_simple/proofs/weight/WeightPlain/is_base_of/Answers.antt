use Rattle.std.proofs.Common.{◌∙◌, FitsSigned}
use Rattle.std.proofs.lemmas.Int.{to_z-of_z}
use mir.Syntax.{w128}
use Rattle.sfm_simple.specs.WeightLaws.{base_is_scaled, scaled_is_base}
use Rattle.sfm_simple.proofs.weight.WeightPlain.is_base_of.Goals as goal

pub returns : goal.returns
returns c =
    let r = c.requires in
    let s = c.args.self.now in
    let fq : FitsSigned w128 c.args.q = c.ranges.q in
    let i = simp to_z-of_z at c.is_scaled.ensures in (
      (λ t. rw (i.0 t) (scaled_is_base c.args.q s.weights)),
      (λ b. i.1 (base_is_scaled c.args.q s.weights c.args.x.now (r.entries ∙ s.same_count) b)),
    )
