use Rattle.std.proofs.Common.{◌<◌, ◌*ℤ◌, ◌≤ℤ◌, ◌∙◌, pos, length, refl, sym, arith, FitsSigned}
use Rattle.std.proofs.lemmas.Bool.{both_ways}
use Rattle.std.proofs.lemmas.Int.{to_z-of_z}
use Rattle.std.proofs.lemmas.List.Elements.{All-get_or}
use Rattle.std.proofs.lemmas.List.{get_or_default}
use mir.Syntax.{w128}
use Rattle.sfm_law.proofs.Fits.{given_fits, given_more, product_fits}
use Rattle.sfm_law.proofs.Totals.{total_of-whole}
use Rattle.sfm_simple.specs.CoverLaws.{cover_base, cover_base_back}
use Rattle.sfm_simple.proofs.cover.CoverPlain.is_base_of.Goals as goal

pub returns-then-none_negative : goal.returns-then-none_negative
returns-then-none_negative c =
    let r = c.requires in
    let s = c.args.self.now in
    let x = c.args.x.now in
    let some : 0 < length x = omega (arith, r.entries, s.elements.some) in
    let fq : FitsSigned w128 c.args.q = c.ranges.q in
    let fw : FitsSigned w128 s.w = given_fits _ s.given in
    let fp : FitsSigned w128 (c.args.q *ℤ s.w) = product_fits _ _ r.factor (given_more _ s.given) in
    let counts = c.if-none_negative.ensures.0 refl in
    let p = simp to_z-of_z at c.product.ensures in
    let i = simp to_z-of_z at (rw p at c.has_sum.ensures) in (
      (λ t. cover_base c.args.q s.w x some
          (record {
            counts = λ e lt. All-get_or (λ a. pos 0 ≤ℤ a) x e (pos 0) lt counts;
            sum = sym (total_of-whole x) ∙ i.0 t;
          })),
      (λ b. i.1 (total_of-whole x ∙ (cover_base_back c.args.q s.w x r.factor.low s.low some
          b).sum)),
    )

pub returns-else-none_negative : goal.returns-else-none_negative
returns-else-none_negative c =
    let r = c.requires in
    let s = c.args.self.now in
    let x = c.args.x.now in
    let some : 0 < length x = omega (arith, r.entries, s.elements.some) in (
      (λ t. absurd (both_ways c.none_negative.result c.if-none_negative.false t)),
      (λ b. let h = cover_base_back c.args.q s.w x r.factor.low s.low some
          b in c.none_negative.ensures.1
          (λ k d lt. rw (get_or_default x k d (pos 0) lt) (h.counts k lt))),
    )
