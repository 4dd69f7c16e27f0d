use Rattle.std.proofs.Common.{◌∙◌, ◌*ℤ◌, length, pos, Some, ap, sym}
use Rattle.sfm_matroid.proofs.AnyRank.{worth_passed}
use Rattle.sfm_graphic.proofs.Kept.{rank_taken}
use Rattle.sfm_graphic.proofs.Labels.{length-edges}
use Rattle.sfm_matroid.proofs.Passed.{weigh_passed}
use Rattle.sfm_graphic.proofs.graphic.GraphicTerm.value.Goals as goal

pub grow-requires : goal.grow-requires
grow-requires c = c.requires ∙ (sym c.args.self.now.same_count
    ∙ (sym (ap length c.as_slice.ensures) ∙ length-edges c.as_slice.result.now))

pub worth-requires : goal.worth-requires
worth-requires c = let s = c.args.self.now in weigh_passed s.w _ s.given s.low
    (rw (c.in_ok-forest.ensures.places ∙ c.requires) s.few)

pub returns-clause-value : goal.returns-clause-value
returns-clause-value c =
    let s = c.args.self.now in
    let e = rank_taken c.as_slice.result.now s.ends c.args.s.now _ c.as_slice.ensures
    c.in_ok-forest.ensures.taken in
    ap Some (worth_passed s.w _ s.given c.worth.result c.worth.ensures.small c.worth.ensures.value
    ∙ ap (λ n. s.w *ℤ pos n) e)
