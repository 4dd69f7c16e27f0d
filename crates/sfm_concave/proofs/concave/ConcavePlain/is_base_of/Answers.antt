use Rattle.std.proofs.Common.{◌∙◌, sym, refl, FitsSigned}
use Rattle.std.proofs.lemmas.Bool.{both_ways}
use Rattle.std.proofs.lemmas.Int.{to_z-of_z}
use mir.Syntax.{w128}
use Rattle.sfm_concave.proofs.Above.{length-above}
use Rattle.sfm_concave.proofs.ConcaveRooms.{base_by_thresholds, concave_slack, concave_total}
use Rattle.sfm_law.proofs.Fits.{at_most_more, share_fits}
use Rattle.sfm_law.proofs.Totals.{total_of-whole}
use Rattle.sfm_concave.proofs.concave.ConcavePlain.is_base_of.Goals as goal

pub returns-then-has_sum : goal.returns-then-has_sum
returns-then-has_sum c =
    let r = c.requires in
    let s = c.args.self.now in
    let x = c.args.x.now in
    let q = c.args.q in
    let fq : FitsSigned w128 q = c.ranges.q in
    let fn : FitsSigned w128 c.scaled.result = share_fits _
    (at_most_more _ c.scaled.ensures.small) in
    let value = simp to_z-of_z at c.scaled.ensures.value in
    let sum = simp to_z-of_z at (c.if-has_sum.ensures.0 refl) in
    let within = simp to_z-of_z at c.is_within.ensures in (
      (λ t. base_by_thresholds q s.values x r.factor.low (s.counted ∙ sym r.entries) s.falling
          (sym (sum ∙ value) ∙ total_of-whole x) (within.0 t)),
      (λ b. within.1 (λ w lt. concave_slack q s.values x b _ (length-above _ x))),
    )

pub returns-else-has_sum : goal.returns-else-has_sum
returns-else-has_sum c =
    let fq : FitsSigned w128 c.args.q = c.ranges.q in
    let fn : FitsSigned w128 c.scaled.result = share_fits _
    (at_most_more _ c.scaled.ensures.small) in
    let value = simp to_z-of_z at c.scaled.ensures.value in
    let sum = simp to_z-of_z at c.has_sum.ensures in (
      (λ t. absurd (both_ways c.has_sum.result c.if-has_sum.false t)),
      (λ b. sum.1 (total_of-whole c.args.x.now
          ∙ (sym (concave_total c.args.q c.args.self.now.values c.args.x.now b) ∙ sym value))),
    )
